-- The slots of a table, and the cells that cover them (4.9.12.1, "forming a table").
use Rattle.std.specs.List.{find, list_any}
use Rattle.std.specs.Option.{option_and_then}
use Rattle.std.specs.Prelude.{Bool, List, None, Option, Some, [], false, filter, flat_map, if◌then◌else◌, map, max, min, nat_le, nat_lt, suc, true, zero, ℕ, ◌&&◌, ◌+◌, ◌++◌, ◌-◌, ◌==◌, ◌∷◌, codes}
use Rattle.tl_names.specs.Elements.{words}
use Rattle.tl_tree.specs.Asked.{attributes_at, children_at, value_of}
use Rattle.tl_tree.specs.Rows.{Row}
use Rattle.tl_tree_extract.specs.Named.{is_named_at}
use Rattle.tl_tree_extract.specs.Numbers.{non_negative}
use Rattle.tl_tree_extract.specs.declared.tables.Cell.{Cell}
use Rattle.tl_tree_extract.specs.declared.tables.Table as declared
use Rattle.tl_tree_extract.specs.declared.tables.TableRow.{TableRow}

-- Elements

unfoldable pub row_names : List (List ℕ)
row_names = words "tr"

unfoldable pub cell_names : List (List ℕ)
cell_names = words "td th"

unfoldable pub body_names : List (List ℕ)
body_names = words "tbody thead"

unfoldable pub foot_names : List (List ℕ)
foot_names = words "tfoot"

-- rows and row groups: before the first one stand the columns
unfoldable pub body_or_row_names : List (List ℕ)
body_or_row_names = words "tbody tfoot thead tr"

unfoldable pub column_group_names : List (List ℕ)
column_group_names = words "colgroup"

unfoldable pub column_names : List (List ℕ)
column_names = words "col"

abbrev pub children_named : List (List ℕ) → List Row → ℕ → List ℕ
children_named names rows number = filter (is_named_at names rows) (children_at rows number)

-- Rows

-- a row of a table, or the end of a row group, where all spans end
abbrev pub Step : Type 0
Step = Option ℕ

abbrev pub group_steps : List Row → ℕ → List Step
group_steps rows group = map (λ row. Some row) (children_named row_names rows group)

-- "rows": a row that stands in no group; a group, before which spans end, and at whose end; a
-- `tfoot`, where spans end, and which comes last
abbrev pub first_steps : List Row → ℕ → List Step
first_steps rows child =
    if is_named_at row_names rows child then Some child ∷ []
    else if is_named_at body_names rows child
    then None ∷ (group_steps rows child ++ None ∷ [])
    else if is_named_at foot_names rows child then None ∷ [] else []

-- "end": the rows of a `tfoot`
abbrev pub last_steps : List Row → ℕ → List Step
last_steps rows child =
    if is_named_at foot_names rows child then group_steps rows child ++ None ∷ [] else []

abbrev pub steps_of : List Row → ℕ → List Step
steps_of rows table =
    flat_map (first_steps rows) (children_at rows table)
    ++ flat_map (last_steps rows) (children_at rows table)

-- how many rows come before a group ends
abbrev pub rows_ahead : List Step → ℕ
rows_ahead [] = 0
rows_ahead (None ∷ steps) = 0
rows_ahead (Some row ∷ steps) = suc (rows_ahead steps)

-- the rows of steps, the first of which has a number, and where the groups end that they are of
abbrev pub rows_from : ℕ → List Step → List TableRow
rows_from number [] = []
rows_from number (None ∷ steps) = rows_from number steps
rows_from number (Some row ∷ steps) =
    record { node = row; group_end = number + suc (rows_ahead steps) }
    ∷ rows_from (suc number) steps

abbrev pub table_rows : List Row → ℕ → List TableRow
table_rows rows table = rows_from 0 (steps_of rows table)

-- Spans

abbrev pub number_at : List ℕ → List Row → ℕ → Option ℕ
number_at key rows number =
    option_and_then non_negative (value_of key (attributes_at rows number))

-- 1 where it is no number, or 0, and 1000 at most
abbrev pub columns_said : Option ℕ → ℕ
columns_said None = 1
columns_said (Some n) = if n == 0 then 1 else min 1000 n

-- where a cell ends that begins in a row, and at the end of its row group at last: that is meant by
-- 0 too. No row is made that no `tr` stands for
abbrev pub bottom_said : Option ℕ → ℕ → ℕ → ℕ
bottom_said None number end = min (number + 1) end
bottom_said (Some n) number end = if n == 0 then end else min (number + min 65534 n) end

-- the number of the greatest column: those behind it are that one
abbrev pub last_column : ℕ
last_column = 4294967295

-- Columns

-- so many columns, with those that an element stands for
abbrev pub with_columns : List Row → ℕ → ℕ → ℕ
with_columns rows width number =
    min (width + columns_said (number_at (codes "span") rows number)) last_column

-- with those that each of some elements stands for
abbrev pub with_each : List Row → ℕ → List ℕ → ℕ
with_each rows width [] = width
with_each rows width (number ∷ more) = with_each rows (with_columns rows width number) more

-- "column groups": with the columns of its `col`s; a group without one stands for columns itself
abbrev pub with_group : List Row → ℕ → ℕ → ℕ
with_group rows width group =
    if list_any (is_named_at column_names rows) (children_at rows group)
    then with_each rows width (children_named column_names rows group)
    else with_columns rows width group

-- with those of the column groups that stand before all rows and row groups
abbrev pub with_groups : List Row → ℕ → List ℕ → ℕ
with_groups rows width [] = width
with_groups rows width (child ∷ more) =
    if is_named_at body_or_row_names rows child then width
    else with_groups rows
    (if is_named_at column_group_names rows child
    then with_group rows width child
    else width)
    more

-- Cells

-- a cell covers the slot of a column and a row
abbrev pub covers : ℕ → ℕ → Cell → Bool
covers column row c =
    (nat_le c.left column && nat_lt column c.right) && (nat_le c.top row && nat_lt row c.bottom)

abbrev pub is_covered : List Cell → ℕ → ℕ → Bool
is_covered cells column row = list_any (covers column row) cells

-- the first slot of a row, from a column on, that no cell covers, among so many more
abbrev pub free_from : List Cell → ℕ → ℕ → ℕ → ℕ
free_from cells row column zero = column
free_from cells row column (suc most) =
    elim (is_covered cells column row) as (λ _. ℕ) [
      | true ↦ free_from cells row (suc column) most
      | false ↦ column
    ]

-- a table that is being formed: how many columns it has, and its cells
pub record Forming : Type 0 where
  pub width : ℕ
  pub cells : List Cell

-- the cell of an element, anchored in a slot
abbrev pub cell_at : List Row → TableRow → ℕ → ℕ → ℕ → Cell
cell_at rows row number cell column = record {
  node = cell;
  left = column;
  right = min (column + columns_said (number_at (codes "colspan") rows cell)) last_column;
  top = number;
  bottom = bottom_said (number_at (codes "rowspan") rows cell) number row.group_end;
}

abbrev pub with_cell : Forming → Cell → Forming
with_cell f c = record { width = max f.width c.right; cells = f.cells ++ c ∷ [] }

-- "cells": each goes to the next slot of the row that is free, from a column on
abbrev pub place_cells : List Row → TableRow → ℕ → List ℕ → ℕ → Forming → Forming
place_cells rows row number [] column f = f
place_cells rows row number (cell ∷ cells) column f =
    let c = cell_at rows row number cell (free_from f.cells number column (f.width - column)) in
    place_cells rows row number cells c.right (with_cell f c)

-- "processing rows", from a row of a number on
abbrev pub form_rows : List Row → ℕ → List TableRow → Forming → Forming
form_rows rows number [] f = f
form_rows rows number (row ∷ more) f =
    form_rows rows (suc number) more
    (place_cells rows row number (children_named cell_names rows row.node) 0 f)

-- before its rows are processed a table has the columns of its column groups
abbrev pub begun : List Row → ℕ → Forming
begun rows table = record {
  width = with_groups rows 0 (children_at rows table);
  cells = [];
}

-- a table: its columns, its rows from above, and its cells in their order
pub record TableModel : Type 0 where
  pub width : ℕ
  pub rows : List TableRow
  pub cells : List Cell

abbrev pub table_said : declared.Table → TableModel
table_said t = record { width = t.width; rows = t.rows.items; cells = t.cells.items }

abbrev pub table_of : List Row → ℕ → TableModel
table_of rows table =
    let trs = table_rows rows table in
    let f = form_rows rows 0 trs (begun rows table) in
    record { width = f.width; rows = trs; cells = f.cells }

-- the cell that a slot has: where several cover it, the first of them
abbrev pub slot_of : TableModel → ℕ → ℕ → Option Cell
slot_of t column row = find (covers column row) t.cells
