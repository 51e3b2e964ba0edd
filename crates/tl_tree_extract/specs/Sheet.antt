-- A table in columns: a line for each row, with a value for each slot.
use Rattle.std.specs.Prelude.{Bool, List, None, Option, Some, [], if◌then◌else◌, length, suc, true, zero, ℕ, ◌&&◌, ◌++◌, ◌-◌, ◌==◌, ◌∷◌}
use Rattle.tl_tree.specs.Rows.{Row}
use Rattle.tl_tree_extract.specs.Fields.{first_written, separator, value_written}
use Rattle.tl_tree_extract.specs.Readable.{one_line, readable_below}
use Rattle.tl_tree_extract.specs.Table.{TableModel, slot_of, table_of}
use Rattle.tl_tree_extract.specs.declared.column.Columns.{Columns}
use Rattle.tl_tree_extract.specs.declared.sheet.Spans.{Spans}
use Rattle.tl_tree_extract.specs.declared.sheet.Spans.TheVariants.{Filled, Once}
use Rattle.tl_tree_extract.specs.declared.tables.Cell.{Cell}

-- a cell has its words in a slot: in each that it has, or in that where it begins
abbrev pub is_said : Spans → Cell → ℕ → ℕ → Bool
is_said Filled c column row = true
is_said Once c column row = c.left == column && c.top == row

-- the words of the cell that a slot of a column and a row has; nothing where none has it
abbrev pub words_of_cell : Spans → List Row → ℕ → ℕ → Option Cell → List ℕ
words_of_cell spans rows column row None = []
words_of_cell spans rows column row (Some c) =
    if is_said spans c column row then one_line (readable_below [] rows c.node) else []

abbrev pub slot_words : Spans → List Row → TableModel → ℕ → ℕ → List ℕ
slot_words spans rows t column row = words_of_cell spans rows column row (slot_of t column row)

-- so many slots behind the first one
abbrev pub more_slots : Columns → Spans → List Row → TableModel → ℕ → ℕ → List ℕ
more_slots columns spans rows t row zero = []
more_slots columns spans rows t row (suc n) =
    more_slots columns spans rows t row n
    ++ (separator columns ∷ value_written columns (slot_words spans rows t (suc n) row))

-- a row has a slot in each column of the table, and one where that has none
abbrev pub row_written : Columns → Spans → List Row → TableModel → ℕ → List ℕ
row_written columns spans rows t row =
    first_written columns (t.width - 1) (slot_words spans rows t 0 row)
    ++ (more_slots columns spans rows t row (t.width - 1) ++ 10 ∷ [])

-- so many rows from above
abbrev pub rows_written : Columns → Spans → List Row → TableModel → ℕ → List ℕ
rows_written columns spans rows t zero = []
rows_written columns spans rows t (suc n) =
    rows_written columns spans rows t n ++ row_written columns spans rows t n

abbrev pub table_written : Columns → Spans → List Row → ℕ → List ℕ
table_written columns spans rows table =
    let t = table_of rows table in
    rows_written columns spans rows t (length t.rows)
