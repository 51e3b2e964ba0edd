use Rattle.std.proofs.Common.{refl}
use Rattle.tl_tree.specs.Inner.Builders.{builder_of, token_of}
use Rattle.tl_tree.proofs.builder.Builder.set_marks.Goals as goal

pub returns-clause-ok : goal.returns-clause-ok
unfolding builder_of
returns-clause-ok c = refl

pub returns-clause-token : goal.returns-clause-token
unfolding token_of
returns-clause-token c = refl
