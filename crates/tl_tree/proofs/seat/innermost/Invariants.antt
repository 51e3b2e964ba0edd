use Rattle.std.proofs.Common.{Some, length, slice_get, ℕ, ◌<◌, ◌≡◌, ◌≤◌}
use Rattle.tl_tree.specs.declared.row.Row.{Row}
use Rattle.tl_tree.proofs.seat.innermost.Given as goal

abbrev pub invariant-loop-parent : goal.invariant-loop-parent
invariant-loop-parent l =
    (l.number ≡ length l.rows)
    × (l.parent ≤ l.number)
    × ((k : ℕ) (row : Row) → slice_get l.rows k ≡ Some row → l.number < row.end → k < l.parent)

abbrev pub decreases-loop-parent : goal.decreases-loop-parent
decreases-loop-parent l = l.parent
