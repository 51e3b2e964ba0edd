use Rattle.std.proofs.Common.{length, ◌-◌}
use Rattle.tl_tree_extract.specs.Inner.Slots.{AreOpenAt}
use Rattle.tl_tree_extract.proofs.row_slots.open_up_to.Given as goal

abbrev pub invariant-loop-next : goal.invariant-loop-next
invariant-loop-next l = AreOpenAt l.cells l.row l.next l.open.items

abbrev pub decreases-loop-next : goal.decreases-loop-next
decreases-loop-next l = length l.cells - l.next
