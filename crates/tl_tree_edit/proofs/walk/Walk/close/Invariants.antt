use Rattle.std.proofs.Common.{length, true, ◌≡◌}
use Rattle.tl_tree_edit.specs.Events.{ended, left_open}
use Rattle.tl_tree_edit.specs.Inner.Walk.{Follows, edits_left, left, opens_of}
use Rattle.tl_tree_edit.proofs.walk.Walk.close.Given as goal

abbrev pub invariant-loop-own : goal.invariant-loop-own
invariant-loop-own l = record {
  met : Follows (ended l.next (opens_of l.initial.self)) (ended l.next (opens_of l.self)) (left l.initial.self.rest) (left l.self.rest) true;
  outer : left_open l.next (opens_of l.initial.self) ≡ left_open l.next (opens_of l.self);
  until : l.self.until ≡ l.initial.self.until;
  edits : edits_left l.self ≡ edits_left l.initial.self;
}

abbrev pub decreases-loop-own : goal.decreases-loop-own
decreases-loop-own l = length l.self.outer.items
