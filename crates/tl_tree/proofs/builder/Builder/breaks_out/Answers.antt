use Rattle.tl_tree.specs.Inner.Builders.{token_of}
use Rattle.tl_tree.proofs.builder.Builder.breaks_out.Goals as goal

pub returns : goal.returns
unfolding token_of
returns c = c.breaks_out.ensures
