use Rattle.tl_tree.proofs.Reopened.{ClosedFrom}
use Rattle.tl_tree.proofs.builder.Builder.first_closed.Given as goal

abbrev pub invariant-loop-left : goal.invariant-loop-left
invariant-loop-left l = ClosedFrom l.self l.left

abbrev pub decreases-loop-left : goal.decreases-loop-left
decreases-loop-left l = l.left
