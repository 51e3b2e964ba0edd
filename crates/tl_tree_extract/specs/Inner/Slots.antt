-- Which cell has each slot of a row.
use Rattle.std.specs.List.{position_or_len}
use Rattle.std.specs.Option.{option_and_then}
use Rattle.std.specs.Prelude.{Bool, List, None, Option, Some, [], filter, get_or, length, nat_le, nat_lt, slice_get, take, ℕ, ◌&&◌, ◌-◌, ◌<◌, ◌≡◌, ◌≤◌, ◌∷◌}
use Rattle.tl_tree_extract.specs.Table.{TableModel, slot_of}
use Rattle.tl_tree_extract.specs.declared.row_slots.RowSlots.{RowSlots}
use Rattle.tl_tree_extract.specs.declared.tables.Cell.{Cell}

-- a cell ends behind a row
abbrev pub lasts : ℕ → Cell → Bool
lasts row c = nat_lt row c.bottom

-- each begins in a row or above it
abbrev pub AreBegun : ℕ → List Cell → Type 0
AreBegun row [] = Unit {0}
AreBegun row (c ∷ cells) = (c.top ≤ row) × AreBegun row cells

-- the next cell, if there is one, begins below a row
abbrev pub IsAhead : ℕ → Option Cell → Type 0
IsAhead row None = Unit {0}
IsAhead row (Some c) = row < c.top

-- the cells up to one begin in a row or above it, and those that go on there are open
pub record AreOpenAt (cells : List Cell) (row met : ℕ) (open_cells : List Cell) : Type 0 where
  pub within : met ≤ length cells
  pub same : open_cells ≡ filter (lasts row) (take met cells)
  pub begun : AreBegun row (take met cells)

-- a cell covers a column
abbrev pub is_across : ℕ → Cell → Bool
is_across column c = nat_le c.left column && nat_lt column c.right

-- the number of the first cell that does, or how many there are
abbrev pub first_across : ℕ → List Cell → ℕ
first_across column cells = position_or_len (is_across column) cells

-- each slot has that of its column
abbrev pub AreSlots : List Cell → List ℕ → Type 0
AreSlots cells slots =
    (column : ℕ) → column < length slots → get_or slots column 0 ≡ first_across column cells

-- each cell begins in no row above the one before it, from one row on and up to another
abbrev pub AreRising : ℕ → ℕ → List Cell → Type 0
AreRising low high [] = low ≤ high
AreRising low high (c ∷ cells) = (low ≤ c.top) × AreRising c.top high cells

-- the cell of a slot
abbrev pub cell_of : RowSlots → ℕ → Option Cell
cell_of s column =
    option_and_then (λ index. slice_get s.cells.items index) (slice_get s.slots.items column)

-- what is known before a row, and at it
abbrev pub IsBeforeRow : TableModel → ℕ → RowSlots → Type 0
IsBeforeRow t row s =
    AreOpenAt t.cells row s.met (filter (lasts row) s.cells.items)

pub record IsAtRow (t : TableModel) (row : ℕ) (s : RowSlots) : Type 0 where
  pub going : AreOpenAt t.cells row s.met s.cells.items
  pub slots : (column : ℕ) → column ≤ t.width - 1 → cell_of s column ≡ slot_of t column row
