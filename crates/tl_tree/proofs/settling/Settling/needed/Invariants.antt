use Rattle.std.proofs.Common.{IsTrue, drop, length, ◌≤◌}
use Rattle.std.specs.List.{list_all}
use Rattle.tl_tree.specs.Inner.Settling.{comes_to}
use Rattle.tl_tree.specs.Inner.Store.{is_row}
use Rattle.tl_tree.proofs.settling.Settling.needed.Given as goal

abbrev pub invariant-loop-left : goal.invariant-loop-left
invariant-loop-left l =
    (l.left ≤ length l.self.stack.items)
    × (l.row ≤ l.needed)
    × IsTrue (is_row l.self.store l.needed)
    × IsTrue (list_all (comes_to l.needed) (drop l.left l.self.stack.items))

abbrev pub decreases-loop-left : goal.decreases-loop-left
decreases-loop-left l = l.left
