use Rattle.std.proofs.Common.{length, true, ◌≡◌}
use Rattle.tl_tree.specs.TreeView.{rows_in}
use Rattle.tl_tree_edit.specs.Events.{events}
use Rattle.tl_tree_edit.specs.Inner.Walk.{Follows, left}
use Rattle.tl_tree_edit.proofs.events.Events.meets_tree.Given as goal

abbrev pub invariant-loop-events : goal.invariant-loop-events
invariant-loop-events l = record {
  met : Follows (events (rows_in l.trees)) (left l.events) (left l.initial.self) (left l.self) true;
  tree : l.self.tree.now ≡ l.initial.self.tree.now;
  own : l.events.tree.now ≡ l.trees;
}

abbrev pub decreases-loop-events : goal.decreases-loop-events
decreases-loop-events l = length (left l.events)
