use Rattle.std.proofs.Common.{drop, map, true, ◌≡◌}
use Rattle.tl_tree_edit.specs.Events.{says}
use Rattle.tl_tree_edit.specs.Inner.Walk.{Follows, left}
use Rattle.tl_tree_edit.proofs.events.Events.meets_bytes.Given as goal

abbrev pub invariant-loop-byte : goal.invariant-loop-byte
invariant-loop-byte l = record {
  met : Follows (map says l.bytes) (map says (drop l.byte-index l.bytes)) (left l.initial.self) (left l.self) true;
  tree : l.self.tree.now ≡ l.initial.self.tree.now;
}
