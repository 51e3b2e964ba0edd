use Rattle.std.proofs.Common.{◌≡◌, ◌↔◌}
use Rattle.tl_tree_edit.proofs.node.are_same_attributes.Given as goal

abbrev pub invariant-loop-own : goal.invariant-loop-own
invariant-loop-own l = (l.own-iterator ≡ l.other) ↔ (l.fn.one ≡ l.fn.other)
