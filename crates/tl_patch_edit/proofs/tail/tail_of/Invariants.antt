use Rattle.tl_patch_edit.proofs.Tails.{IsTailSoFar}
use Rattle.tl_patch_edit.proofs.tail.tail_of.Given as goal

abbrev pub invariant-loop-left : goal.invariant-loop-left
invariant-loop-left l = IsTailSoFar l.page l.tokens l.left l.tail

abbrev pub decreases-loop-left : goal.decreases-loop-left
decreases-loop-left l = l.left
