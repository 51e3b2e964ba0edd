-- How long a table is when it is written: each slot takes a byte at least, and more rows are longer.
use Rattle.std.proofs.Common.{List, [], ap, append_assoc, arith, inl, inr, length, length-append, subst, suc, sym, zero, ℕ, ◌*◌, ◌+◌, ◌++◌, ◌-◌, ◌<◌, ◌∙◌, ◌≡◌, ◌≤◌, ◌∷◌}
use Rattle.std.proofs.Math.Nat.{eq-or-lt_of_le}
use Rattle.tl_tree.specs.Rows.{Row}
use Rattle.tl_tree_extract.specs.Fields.{first_written, separator, value_written}
use Rattle.tl_tree_extract.specs.Sheet.{more_slots, row_written, rows_written, slot_words, table_written}
use Rattle.tl_tree_extract.specs.Table.{Forming, TableModel, cell_at, cell_names, children_named, form_rows, free_from, place_cells, table_of, with_cell}
use Rattle.tl_tree_extract.specs.declared.column.Columns.{Columns}
use Rattle.tl_tree_extract.specs.declared.sheet.Spans.{Spans}
use Rattle.tl_tree_extract.specs.declared.tables.TableRow.{TableRow}

-- a table that is being formed gets no narrower

pub placed_wider : (rows : List Row) (row : TableRow) (number : ℕ) (cells : List ℕ) (column : ℕ) (f : Forming) → f.width ≤ (place_cells rows row number cells column f).width
placed_wider rows row number [] column f = omega arith
placed_wider rows row number (cell ∷ cells) column f =
    let c = cell_at rows row number cell (free_from f.cells number column (f.width - column)) in
    let more = placed_wider rows row number cells c.right (with_cell f c) in
    omega (arith, more)

pub formed_wider : (rows : List Row) (number : ℕ) (more : List TableRow) (f : Forming) → f.width ≤ (form_rows rows number more f).width
formed_wider rows number [] f = omega arith
formed_wider rows number (row ∷ more) f =
    let cells = children_named cell_names rows row.node in
    let next : Forming = place_cells rows row number cells 0 f in
    let here = placed_wider rows row number cells 0 f in
    let later = formed_wider rows (suc number) more next in
    omega (arith, here, later)

module _ (columns : Columns) (spans : Spans) (rows : List Row) (t : TableModel) where
  -- a separator for each slot behind the first one
  more_long : (row n : ℕ) → n ≤ length (more_slots columns spans rows t row n)
  more_long row zero = omega arith
  more_long row (suc n) =
      let before = more_long row n in
      let word : List ℕ = value_written columns (slot_words spans rows t (suc n) row) in
      let whole = length-append (more_slots columns spans rows t row n) (separator columns ∷ word) in
      omega (arith, before, whole)

  more_longer : (row m n : ℕ) → m ≤ n → length (more_slots columns spans rows t row m) ≤ length (more_slots columns spans rows t row n)
  more_longer row m zero le = subst (λ (k : ℕ). length (more_slots columns spans rows t row k) ≤ 0) (let none : 0 ≡ m = omega (arith, le) in none) (omega arith)
  more_longer row m (suc n) le =
      elim (eq-or-lt_of_le le) as (λ _. length (more_slots columns spans rows t row m) ≤ length (more_slots columns spans rows t row (suc n))) [
        | inl e ↦ subst (λ (k : ℕ). length (more_slots columns spans rows t row m) ≤ length (more_slots columns spans rows t row k)) e (omega arith)
        | inr lt ↦
            (let before = more_longer row m n (omega (arith, lt)) in
            let word : List ℕ = value_written columns (slot_words spans rows t (suc n) row) in
            let whole = length-append (more_slots columns spans rows t row n) (separator columns ∷ word) in
            omega (arith, before, whole))
      ]

  -- a slot more
  pub slot_more : (row n : ℕ) (old put separated said words : List ℕ) → put ≡ separated ++ value_written columns words
      → words ≡ slot_words spans rows t (n + 1) row → separated ≡ said ++ separator columns ∷ []
      → said ≡ old ++ more_slots columns spans rows t row n → put ≡ old ++ more_slots columns spans rows t row (n + 1)
  slot_more row n old put separated said words value word parted before =
      let behind : suc n ≡ n + 1 = omega arith in
      let own : words ≡ slot_words spans rows t (suc n) row = word ∙ ap (λ (m : ℕ). slot_words spans rows t m row) (sym behind) in
      subst (λ (m : ℕ). put ≡ old ++ more_slots columns spans rows t row m) behind
      (value
      ∙ ap (λ (v : List ℕ). separated ++ value_written columns v) own
      ∙ ap (λ (v : List ℕ). v ++ value_written columns (slot_words spans rows t (suc n) row)) (parted ∙ ap (λ (v : List ℕ). v ++ separator columns ∷ []) before)
      ∙ append_assoc (old ++ more_slots columns spans rows t row n) (separator columns ∷ []) (value_written columns (slot_words spans rows t (suc n) row))
      ∙ append_assoc old (more_slots columns spans rows t row n) (separator columns ∷ value_written columns (slot_words spans rows t (suc n) row)))

  -- what is too long with so many slots is so with all
  pub slots_over : (row m n most : ℕ) (old put : List ℕ) → m ≤ n → put ≡ old ++ more_slots columns spans rows t row m
      → most < length put → most < length (old ++ more_slots columns spans rows t row n)
  slots_over row m n most old put le written over =
      let here = ap (λ (v : List ℕ). length v) written ∙ length-append old (more_slots columns spans rows t row m) in
      let whole = length-append old (more_slots columns spans rows t row n) in
      let more = more_longer row m n le in
      omega (arith, here, whole, more, over)

  -- with the slots behind the first one
  pub row_over : (row most : ℕ) (old first words : List ℕ) → words ≡ slot_words spans rows t 0 row → first ≡ old ++ first_written columns (t.width - 1) words
      → most < length (first ++ more_slots columns spans rows t row (t.width - 1)) → most < length (old ++ row_written columns spans rows t row)
  row_over row most old first words word written over =
      let begin : List ℕ = first_written columns (t.width - 1) (slot_words spans rows t 0 row) in
      let more : List ℕ = more_slots columns spans rows t row (t.width - 1) in
      let begun = ap (λ (v : List ℕ). length v) (written ∙ ap (λ (v : List ℕ). old ++ first_written columns (t.width - 1) v) word) ∙ length-append old begin in
      let short = length-append first more in
      let ended = length-append more (10 ∷ []) in
      let own = length-append begin (more ++ 10 ∷ []) in
      let whole = length-append old (row_written columns spans rows t row) in
      omega (arith, begun, short, ended, own, whole, over)

  -- a separator or a line feed for each slot of a row
  row_long : (row : ℕ) → t.width ≤ length (row_written columns spans rows t row)
  row_long row =
      let begin : List ℕ = first_written columns (t.width - 1) (slot_words spans rows t 0 row) in
      let more : List ℕ = more_slots columns spans rows t row (t.width - 1) in
      let some = more_long row (t.width - 1) in
      let ended = length-append more (10 ∷ []) in
      let own = length-append begin (more ++ 10 ∷ []) in
      omega (arith, some, ended, own)

  rows_long : (n : ℕ) → n * t.width ≤ length (rows_written columns spans rows t n)
  rows_long zero = omega arith
  rows_long (suc n) =
      let before = rows_long n in
      let here = row_long n in
      let whole = length-append (rows_written columns spans rows t n) (row_written columns spans rows t n) in
      omega (arith, before, here, whole)

  rows_longer : (m n : ℕ) → m ≤ n → length (rows_written columns spans rows t m) ≤ length (rows_written columns spans rows t n)
  rows_longer m zero le = subst (λ (k : ℕ). length (rows_written columns spans rows t k) ≤ 0) (let none : 0 ≡ m = omega (arith, le) in none) (omega arith)
  rows_longer m (suc n) le =
      elim (eq-or-lt_of_le le) as (λ _. length (rows_written columns spans rows t m) ≤ length (rows_written columns spans rows t (suc n))) [
        | inl e ↦ subst (λ (k : ℕ). length (rows_written columns spans rows t m) ≤ length (rows_written columns spans rows t k)) e (omega arith)
        | inr lt ↦
            (let before = rows_longer m n (omega (arith, lt)) in
            let whole = length-append (rows_written columns spans rows t n) (row_written columns spans rows t n) in
            omega (arith, before, whole))
      ]

  -- a row more
  pub row_more : (n : ℕ) (old put said : List ℕ) → put ≡ said ++ row_written columns spans rows t n → said ≡ old ++ rows_written columns spans rows t n
      → put ≡ old ++ rows_written columns spans rows t (n + 1)
  row_more n old put said written before =
      let behind : suc n ≡ n + 1 = omega arith in
      subst (λ (m : ℕ). put ≡ old ++ rows_written columns spans rows t m) behind
      (written
      ∙ ap (λ (v : List ℕ). v ++ row_written columns spans rows t n) before
      ∙ append_assoc old (rows_written columns spans rows t n) (row_written columns spans rows t n))

  pub rows_within : (n limit : ℕ) (old put : List ℕ) → put ≡ old ++ rows_written columns spans rows t n → length put ≤ length old + limit
      → length (rows_written columns spans rows t n) ≤ limit
  rows_within n limit old put written few =
      let whole = ap (λ (v : List ℕ). length v) written ∙ length-append old (rows_written columns spans rows t n) in
      omega (arith, whole, few)

  -- what is too long with a row is so with all
  pub rows_over : (m n limit : ℕ) (old said : List ℕ) → m < n → said ≡ old ++ rows_written columns spans rows t m
      → length old + limit < length (said ++ row_written columns spans rows t m) → limit < length (rows_written columns spans rows t n)
  rows_over m n limit old said lt written over =
      let before = ap (λ (v : List ℕ). length v) written ∙ length-append old (rows_written columns spans rows t m) in
      let here = length-append said (row_written columns spans rows t m) in
      let one = length-append (rows_written columns spans rows t m) (row_written columns spans rows t m) in
      let more = rows_longer (suc m) n (omega (arith, lt)) in
      omega (arith, before, here, one, more, over)

-- a byte for each slot
pub table_over : (columns : Columns) (spans : Spans) (rows : List Row) (table limit : ℕ) → limit < length (table_of rows table).rows * (table_of rows table).width
    → limit < length (table_written columns spans rows table)
table_over columns spans rows table limit over =
    let slots = rows_long columns spans rows (table_of rows table) (length (table_of rows table).rows) in
    omega (arith, slots, over)
