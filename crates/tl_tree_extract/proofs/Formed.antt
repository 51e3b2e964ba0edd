-- A table that is formed row by row.
use Rattle.std.proofs.Common.{List, ap, arith, drop, get_or, length, subst, suc, sym, ℕ, ◌*◌, ◌+◌, ◌<◌, ◌∙◌, ◌≡◌, ◌≤◌}
use Rattle.std.proofs.Math.Nat.{mul-le-mul_left}
use Rattle.std.proofs.Math.Seq.{drop-cons}
use Rattle.tl_tree.specs.Rows.{Row}
use Rattle.tl_tree_extract.proofs.Lengths.{formed_wider}
use Rattle.tl_tree_extract.specs.Table.{Forming, begun, cell_names, children_named, form_rows, place_cells, table_of, table_rows}
use Rattle.tl_tree_extract.specs.declared.tables.TableRow.{TableRow}

-- a row more
abbrev pub with_row : List Row → ℕ → TableRow → Forming → Forming
with_row rows n row f = place_cells rows row n (children_named cell_names rows row.node) 0 f

module _ (rows : List Row) (n : ℕ) (items : List TableRow) (none : TableRow) (f : Forming) (within : n < length items) where
  -- what is formed of a row and those behind it
  row_first : form_rows rows n (drop n items) f ≡ form_rows rows (suc n) (drop (suc n) items) (with_row rows n (get_or items n none) f)
  row_first = ap (λ (more : List TableRow). form_rows rows n more f) (drop-cons items n none within)

  pub formed_next : (g whole : Forming) → form_rows rows n (drop n items) f ≡ whole → g ≡ with_row rows n (get_or items n none) f
      → form_rows rows (n + 1) (drop (n + 1) items) g ≡ whole
  formed_next g whole before own =
      let behind : suc n ≡ n + 1 = omega arith in
      subst (λ (m : ℕ). form_rows rows m (drop m items) g ≡ whole) behind
      (ap (λ (h : Forming). form_rows rows (suc n) (drop (suc n) items) h) own ∙ (sym row_first ∙ before))

  -- the table is as wide as it is with the row, and has all rows
  pub formed_over : (table limit count : ℕ) → items ≡ table_rows rows table → count ≡ length items
      → form_rows rows n (drop n items) f ≡ form_rows rows 0 items (begun rows table)
      → limit < count * (with_row rows n (get_or items n none) f).width → limit < length (table_of rows table).rows * (table_of rows table).width
  formed_over table limit count all counted before over =
      let next : Forming = with_row rows n (get_or items n none) f in
      let wider = formed_wider rows (suc n) (drop (suc n) items) next in
      let same : form_rows rows (suc n) (drop (suc n) items) next ≡ form_rows rows 0 items (begun rows table) = sym row_first ∙ before in
      let whole = ap (λ (h : Forming). h.width) same in
      let wide : next.width ≤ (form_rows rows 0 items (begun rows table)).width = omega (arith, wider, whole) in
      let more = mul-le-mul_left count wide in
      let slots : limit < length items * (form_rows rows 0 items (begun rows table)).width =
      subst (λ (k : ℕ). limit < k * (form_rows rows 0 items (begun rows table)).width) counted (omega (arith, over, more)) in
      subst (λ (trs : List TableRow). limit < length trs * (form_rows rows 0 trs (begun rows table)).width) all slots
