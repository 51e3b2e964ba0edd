use Rattle.std.proofs.Common.{refl}
use Rattle.tl_tree.specs.Inner.Builders.{builder_of}
use Rattle.tl_tree.proofs.builder.Builder.is_scripting.Goals as goal

pub returns : goal.returns
unfolding builder_of
returns c = refl
