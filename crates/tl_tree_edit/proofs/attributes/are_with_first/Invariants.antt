use Rattle.std.proofs.Common.{length, ◌≡◌, ◌↔◌}
use Rattle.tl_tree_edit.specs.Changes.{with_first}
use Rattle.tl_tree_edit.proofs.attributes.are_with_first.Given as goal

abbrev pub invariant-loop-own : goal.invariant-loop-own
invariant-loop-own l =
    (with_first l.key l.value l.one ≡ l.other) ↔ (with_first l.key l.value l.fn.one ≡ l.fn.other)

abbrev pub decreases-loop-own : goal.decreases-loop-own
decreases-loop-own l = length l.one
