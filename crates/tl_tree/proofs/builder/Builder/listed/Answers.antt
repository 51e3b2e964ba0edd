use Rattle.tl_tree.specs.Inner.Builders.{builder_of}
use Rattle.tl_tree.proofs.builder.Builder.listed.Goals as goal

pub returns-clause-stands : goal.returns-clause-stands
unfolding builder_of
returns-clause-stands c = c.listed.ensures.stands
