use Rattle.tl_patch_select.specs.Selected.{place_of}
use Rattle.tl_patch_select.proofs.InOrder.{AreFromNowhere}
use Rattle.tl_patch_select.proofs.in_order.end_before.Given as goal

abbrev pub decreases-loop-left : goal.decreases-loop-left
decreases-loop-left l = l.left

-- no row so far comes from a place
abbrev pub invariant-loop-left : goal.invariant-loop-left
invariant-loop-left l = AreFromNowhere (place_of l.tree) l.left l.end
