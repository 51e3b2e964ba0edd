use Rattle.std.proofs.Common.{◌≡◌, ◌↔◌}
use Rattle.tl_tree_edit.specs.Changes.{without_key}
use Rattle.tl_tree_edit.proofs.attributes.are_without_key.Given as goal

abbrev pub invariant-loop-own : goal.invariant-loop-own
invariant-loop-own l =
    (without_key l.key l.own-iterator ≡ l.other) ↔ (without_key l.key l.fn.one ≡ l.fn.other)
