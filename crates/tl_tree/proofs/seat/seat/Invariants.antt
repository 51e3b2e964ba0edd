use Rattle.std.proofs.Common.{Some, length, slice_get, ℕ, ◌+◌, ◌-◌, ◌<◌, ◌≡◌, ◌≤◌}
use Rattle.tl_tree.specs.Inner.Seating.{IsInnermost}
use Rattle.tl_tree.specs.declared.row.Row.{Row}
use Rattle.tl_tree.proofs.seat.seat.Given as goal

abbrev pub invariant-loop-number : goal.invariant-loop-number
invariant-loop-number l =
    (l.total ≡ length l.initial.rows)
    × (l.number ≤ length l.initial.rows)
    × ((k : ℕ) (row own : Row) → k < l.number → slice_get l.initial.rows k ≡ Some row → slice_get l.rows k ≡ Some own → (own.held ≡ row.held) × (own.end + row.end ≡ length l.initial.rows))
    × ((k : ℕ) → l.number ≤ k → slice_get l.rows k ≡ slice_get l.initial.rows k)
    × ((k : ℕ) (row : Row) → k < l.number → slice_get l.rows k ≡ Some row → IsInnermost l.rows k row.parent)

abbrev pub decreases-loop-number : goal.decreases-loop-number
decreases-loop-number l = length l.initial.rows - l.number
