use Rattle.std.proofs.Common.{drop, length, ◌+◌, ◌++◌, ◌<◌, ◌^◌, ◌≡◌, ◌≤◌}
use Rattle.tl_tree.specs.Inner.Settling.{text_of_pieces}
use Rattle.tl_tree.proofs.settle.copy.Given as goal

abbrev pub invariant-loop-left : goal.invariant-loop-left
invariant-loop-left l =
    (l.left ≤ length l.pieces)
    × (l.copied.items ≡ l.initial.copied.items ++ text_of_pieces l.store (drop l.left l.pieces))
    × (length l.store.page.now + (length l.store.side.items + length l.copied.items) < 2 ^ 32)

abbrev pub decreases-loop-left : goal.decreases-loop-left
decreases-loop-left l = l.left
