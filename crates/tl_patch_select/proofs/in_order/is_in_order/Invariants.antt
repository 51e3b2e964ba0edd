use Rattle.tl_patch_select.specs.Inner.InOrder.{AreInOrderUpTo}
use Rattle.tl_patch_select.specs.Selected.{place_of}
use Rattle.tl_patch_select.proofs.in_order.is_in_order.Given as goal

-- the rows so far come from a page in its order
abbrev pub invariant-loop-row : goal.invariant-loop-row
invariant-loop-row l = AreInOrderUpTo (place_of l.tree) l.row l.past
