use Rattle.tl_tree.specs.Inner.Builders.{builder_of}
use Rattle.tl_tree.proofs.builder.Builder.appropriate_place.Goals as goal

pub returns : goal.returns
unfolding builder_of
returns c = c.place_in.ensures
