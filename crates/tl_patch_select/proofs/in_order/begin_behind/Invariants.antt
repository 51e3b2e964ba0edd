use Rattle.tl_patch_select.specs.Selected.{place_of}
use Rattle.tl_patch_select.proofs.InOrder.{AreFromNowhere}
use Rattle.tl_patch_select.proofs.in_order.begin_behind.Given as goal

-- no row so far comes from a place
abbrev pub invariant-loop-row : goal.invariant-loop-row
invariant-loop-row l = AreFromNowhere (place_of l.tree) l.fn.end l.row
