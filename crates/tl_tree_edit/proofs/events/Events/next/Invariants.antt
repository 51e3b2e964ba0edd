use Rattle.std.proofs.Common.{◌≡◌, ◌-◌, length}
use Rattle.tl_tree.specs.TreeView.{rows_in}
use Rattle.tl_tree_edit.specs.Inner.Walk.{left}
use Rattle.tl_tree_edit.proofs.events.Events.next.Given as goal

abbrev pub invariant-loop-self : goal.invariant-loop-self
invariant-loop-self l = record {
  said : left l.self ≡ left l.initial.self;
  tree : l.self.tree.now ≡ l.initial.self.tree.now;
}

abbrev pub decreases-loop-self : goal.decreases-loop-self
decreases-loop-self l = length (rows_in l.self.tree.now) - l.self.number
