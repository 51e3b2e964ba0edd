use Rattle.tl_tree.specs.Inner.Builders.{builder_of}
use Rattle.tl_tree.proofs.builder.Builder.html_step.Goals as goal

pub returns-clause-ok : goal.returns-clause-ok
unfolding builder_of
returns-clause-ok c = c.mode_step.ensures.ok
