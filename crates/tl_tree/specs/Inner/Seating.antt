-- Rows by their ranges alone: which one is the innermost whose range has a number.
use Rattle.std.specs.Prelude.{List, Some, length, slice_get, suc, ℕ, ◌+◌, ◌<◌, ◌≡◌, ◌≤◌}
use Rattle.tl_tree.specs.declared.row.Row.{Row}

-- each row whose range has a number is this one or further out. 0 is none, other numbers are one
-- more than that of a row
pub record IsInnermost (rows : List Row) (number parent : ℕ) : Type 0 where
  pub before : parent ≤ number
  pub holds : (p : ℕ) (row : Row) → parent ≡ suc p → slice_get rows p ≡ Some row → number < row.end
  pub inner : (k : ℕ) (row : Row) → slice_get rows k ≡ Some row → k < number →
      number < row.end → k < parent

-- each stands in the innermost one
abbrev pub Chained : List Row → Type 0
Chained rows = (k : ℕ) (row : Row) → slice_get rows k ≡ Some row → IsInnermost rows k row.parent

pub record Seated (old new : List Row) : Type 0 where
  pub long : length new ≡ length old
  pub same : (k : ℕ) (row own : Row) → slice_get old k ≡ Some row → slice_get new k ≡ Some own →
      (own.held ≡ row.held) × (own.end + row.end ≡ length old)
  pub chained : Chained new
