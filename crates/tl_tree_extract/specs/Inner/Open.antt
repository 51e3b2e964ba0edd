-- Cells that may go on in later rows: those behind a place of a row, and those ahead of it.
use Rattle.std.specs.List.{list_any}
use Rattle.std.specs.Prelude.{Bool, List, [], nat_le, nat_lt, reverse, true, ℕ, ◌&&◌, ◌++◌, ◌<◌, ◌≤◌, ◌∷◌, ◌≡◌}
use Rattle.tl_tree_extract.specs.Table.{Forming, is_covered}
use Rattle.tl_tree_extract.specs.declared.forming.Forming as declared
use Rattle.tl_tree_extract.specs.declared.tables.Cell.{Cell}

-- a cell that began no later than a row covers a slot of it
abbrev pub goes_on : ℕ → ℕ → Cell → Bool
goes_on column row c = (nat_le c.left column && nat_lt column c.right) && nat_lt row c.bottom

abbrev pub is_open : List Cell → ℕ → ℕ → Bool
is_open cells column row = list_any (goes_on column row) cells

-- each begins at a column at least, or at most
abbrev pub AreFrom : ℕ → List Cell → Type 0
AreFrom column [] = Unit {0}
AreFrom column (c ∷ cells) = (column ≤ c.left) × AreFrom column cells

abbrev pub AreUpTo : ℕ → List Cell → Type 0
AreUpTo column [] = Unit {0}
AreUpTo column (c ∷ cells) = (c.left ≤ column) × AreUpTo column cells

-- each begins no later than those behind it
abbrev pub AreInOrder : List Cell → Type 0
AreInOrder [] = Unit {0}
AreInOrder (c ∷ cells) = AreFrom c.left cells × AreInOrder cells

-- what is known between two rows: the cells that go on in a row or later, in order
pub record AreOpen (cells : List Cell) (row : ℕ) (going : List Cell) : Type 0 where
  pub same : (column later : ℕ) → row ≤ later →
      is_covered cells column later ≡ is_open going column later
  pub sorted : AreInOrder going

-- what is known at a column of a row: the cells that begin up to it, and those that begin behind
-- or cover more of the row
pub record AreAround (cells : List Cell) (row column : ℕ) (passed ahead : List Cell) : Type 0 where
  pub later : (x y : ℕ) → row < y → is_covered cells x y ≡ is_open (passed ++ ahead) x y
  pub here : (x : ℕ) → column ≤ x → is_covered cells x row ≡ is_open ahead x row
  pub low : AreUpTo column passed
  pub sorted : AreInOrder (passed ++ ahead)

-- no cell covers a slot behind the last column
abbrev pub AreWithin : ℕ → List Cell → Type 0
AreWithin width cells = (column row : ℕ) → is_covered cells column row ≡ true → column < width

abbrev pub forming_said : declared.Forming → Forming
forming_said f = record { width = f.width; cells = f.cells.items }

-- a table that is being formed, at a column of a row, and before a row
pub record StandsAt (f : declared.Forming) (row column : ℕ) : Type 0 where
  pub around : AreAround f.cells.items row column f.passed.items (reverse f.ahead.items)
  pub within : AreWithin f.width f.cells.items

pub record StandsBefore (f : declared.Forming) (row : ℕ) : Type 0 where
  pub none : f.passed.items ≡ []
  pub going : AreOpen f.cells.items row (reverse f.ahead.items)
  pub within : AreWithin f.width f.cells.items
