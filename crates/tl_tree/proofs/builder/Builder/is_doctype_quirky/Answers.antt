use Rattle.tl_tree.specs.Inner.Builders.{token_of}
use Rattle.tl_tree.proofs.builder.Builder.is_doctype_quirky.Goals as goal

pub returns : goal.returns
unfolding token_of
returns c = c.is_quirky.ensures
