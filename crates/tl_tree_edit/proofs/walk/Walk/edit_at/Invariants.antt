use Rattle.std.proofs.Common.{◌≡◌, ◌-◌, length}
use Rattle.tl_tree_edit.specs.Changes.{due}
use Rattle.tl_tree_edit.specs.Inner.Walk.{edits_left, left}
use Rattle.tl_tree_edit.proofs.walk.Walk.edit_at.Given as goal

abbrev pub invariant-loop-edit : goal.invariant-loop-edit
invariant-loop-edit l = record {
  edits : due l.number (edits_left l.self) ≡ due l.number (edits_left l.initial.self);
  outer : l.self.outer.items ≡ l.initial.self.outer.items;
  until : l.self.until ≡ l.initial.self.until;
  rest : left l.self.rest ≡ left l.initial.self.rest;
}

abbrev pub decreases-loop-edit : goal.decreases-loop-edit
decreases-loop-edit l = length l.self.edits.now - l.self.next
