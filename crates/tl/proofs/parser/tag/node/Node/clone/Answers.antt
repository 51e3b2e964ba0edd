use Rattle.std.proofs.Common.{ap}
use Rattle.tl.specs.declared.parser.tag.node.NodeOf.TheVariants.{Comment}
use Rattle.tl.proofs.parser.tag.node.Node.clone.Goals as goal

pub returns-in_ok-clone-in-Comment-clause-value : goal.returns-in_ok-clone-in-Comment-clause-value
returns-in_ok-clone-in-Comment-clause-value c = rw c.in-Comment.is (ap Comment c.in_ok-clone-in-Comment.ensures.cases)
