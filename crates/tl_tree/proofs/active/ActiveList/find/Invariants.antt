use Rattle.std.proofs.Common.{◌≡◌, ◌≤◌, drop, false, length}
use Rattle.std.specs.List.{list_any}
use Rattle.tl_tree.specs.Inner.ActiveWithin.{is_of}
use Rattle.tl_tree.proofs.active.ActiveList.find.Given as goal

abbrev pub invariant-loop-left : goal.invariant-loop-left
invariant-loop-left l = record {
  within : l.left ≤ length l.self.entries.items;
  none : list_any (is_of l.number) (drop l.left l.self.entries.items) ≡ false;
}

abbrev pub decreases-loop-left : goal.decreases-loop-left
decreases-loop-left l = l.left
