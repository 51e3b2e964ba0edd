-- Cells of a table stand in the order of their rows.
use Rattle.std.proofs.Common.{List, [], arith, length, subst, suc, ℕ, ◌+◌, ◌++◌, ◌≡◌, ◌≤◌, ◌∷◌}
use Rattle.std.specs.Prelude.{◌-◌}
use Rattle.tl_tree.specs.Rows.{Row}
use Rattle.tl_tree_extract.specs.Inner.Slots.{AreRising}
use Rattle.tl_tree_extract.specs.Table.{Forming, begun, cell_at, cell_names, children_named, form_rows, free_from, place_cells, table_of, table_rows, with_cell}
use Rattle.tl_tree_extract.specs.declared.tables.Cell.{Cell}
use Rattle.tl_tree_extract.specs.declared.tables.TableRow.{TableRow}

one_more : (low high : ℕ) (cells : List Cell) (c : Cell) → high ≤ c.top → AreRising low high cells → AreRising low c.top (cells ++ c ∷ [])
one_more low high [] c le h = (omega (arith, le, h), omega arith)
one_more low high (d ∷ cells) c le h = (h.0, one_more d.top high cells c le h.1)

higher : (low high more : ℕ) (cells : List Cell) → high ≤ more → AreRising low high cells → AreRising low more cells
higher low high more [] le h = omega (arith, le, h)
higher low high more (c ∷ cells) le h = (h.0, higher c.top high more cells le h.1)

placed : (rows : List Row) (row : TableRow) (number : ℕ) (cells : List ℕ) (column : ℕ) (f : Forming) → AreRising 0 number f.cells → AreRising 0 number (place_cells rows row number cells column f).cells
placed rows row number [] column f h = h
placed rows row number (cell ∷ cells) column f h =
    let c = cell_at rows row number cell (free_from f.cells number column (f.width - column)) in
    placed rows row number cells c.right (with_cell f c) (one_more 0 number f.cells c (omega arith) h)

formed : (rows : List Row) (number : ℕ) (more : List TableRow) (f : Forming) → AreRising 0 number f.cells → AreRising 0 (number + length more) (form_rows rows number more f).cells
formed rows number [] f h = let same : number ≡ number + 0 = omega arith in subst (λ n. AreRising 0 n f.cells) same h
formed rows number (row ∷ more) f h =
    let cells = children_named cell_names rows row.node in
    let next : Forming = place_cells rows row number cells 0 f in
    let whole : suc number + length more ≡ number + suc (length more) = omega arith in
    subst (λ n. AreRising 0 n (form_rows rows (suc number) more next).cells) whole
    (formed rows (suc number) more next (higher 0 number (suc number) next.cells (omega arith) (placed rows row number cells 0 f h)))

pub table_rising : (rows : List Row) (table : ℕ) → AreRising 0 (length (table_of rows table).rows) (table_of rows table).cells
table_rising rows table =
    let whole : 0 + length (table_rows rows table) ≡ length (table_rows rows table) = omega arith in
    subst (λ (n : ℕ). AreRising 0 n (table_of rows table).cells) whole
    (formed rows 0 (table_rows rows table) (begun rows table) (omega arith))
