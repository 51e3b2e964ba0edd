use Rattle.std.proofs.Common.{◌≡◌, ◌≤◌, length, take}
use Rattle.tl_dom_spec.specs.Builder.{without_last_marker}
use Rattle.tl_tree.specs.Inner.Active.{seen}
use Rattle.tl_tree.specs.declared.store.Store.{Store}
use Rattle.tl_tree.proofs.active.ActiveList.count_before_marker.Given as goal

abbrev pub invariant-loop-left : goal.invariant-loop-left
invariant-loop-left l = record {
  within : l.left ≤ length l.self.entries.items;
  same : (s : Store) → without_last_marker (seen s l.self.entries.items) ≡ without_last_marker (seen s (take l.left l.self.entries.items));
}

abbrev pub decreases-loop-left : goal.decreases-loop-left
decreases-loop-left l = l.left
