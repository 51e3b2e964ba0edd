use Rattle.std.proofs.Common.{◌≡◌, ◌==◌, ◌<◌, ℕ, suc, List, Option, Some, true, false, length, length-take, take, drop, arith, sym, ap, ap₂, ◌∙◌}
use Rattle.std.specs.List.{common_prefix_len, prefix_len, starts_with, take_while}
use Rattle.std.proofs.lemmas.Bool.{eqb-false}
use Rattle.std.proofs.lemmas.List.{length-take-le}
use Rattle.std.proofs.lemmas.List.Sums.{common_prefix_len-le}
use Rattle.tl_html_spec.specs.References.{Row, first_row, not_zero, rows}
use Rattle.tl_text.specs.Inner.Order.{are_in_order, is_past}
use Rattle.tl_text.proofs.Order.{later_less, later_order, past_row, row_before, shared_begins, unshared_unfit}
use Rattle.tl_text.proofs.Rows.{later_in, row_here, row_in}
use Rattle.tl_text.proofs.names.first_row.Goals as goal

pub returns-then-shared-name-clause-row : goal.returns-then-shared-name-clause-row
returns-then-shared-name-clause-row c =
    let t : List ℕ = c.loop-fits.left.now in
    let s : List ℕ = c.loop-fits.fits.now in
    let n : List ℕ = c.split_at_byte.result.0.now in
    let v : List ℕ = c.split_at_byte-in-loop-fits.result.0.now in
    let name : n ≡ (row_in t).0 = c.split_at_byte.ensures.before in
    let value : v ≡ (row_in t).1 = c.split_at_byte-in-loop-fits.ensures.before ∙ ap (take_while not_zero) c.split_at_byte.ensures.after in
    let shared : common_prefix_len ◌==◌ n s ≡ length n = sym c.shared_len-shared.ensures ∙ c.if-shared-name.true in
    let fits : starts_with ◌==◌ s (row_in t).0 ≡ true = ap (starts_with ◌==◌ s) (sym name) ∙ shared_begins n s shared in
    let some : 0 < length t = (let empty : (length t == 0) ≡ false = sym c.is_empty.ensures ∙ c.loop-fits-test.true in let ne = eqb-false (length t) 0 empty in omega arith) in
    let found : List ℕ → List ℕ → Option Row = λ x y. Some (x, y) in
    c.loop-fits.invariant.row ∙ row_here t s some fits ∙ ap₂ found (sym name) (sym value)

pub returns-then-shared-name-clause-within : goal.returns-then-shared-name-clause-within
returns-then-shared-name-clause-within c =
    let n : List ℕ = c.split_at_byte.result.0.now in
    let s : List ℕ = c.loop-fits.fits.now in
    let le = common_prefix_len-le ◌==◌ n s in
    let shared : common_prefix_len ◌==◌ n s ≡ length n = sym c.shared_len-shared.ensures ∙ c.if-shared-name.true in
    omega (arith, le.1)

pub loop-fits-preserved-then-is_past : goal.loop-fits-preserved-then-is_past
loop-fits-preserved-then-is_past c =
    let t : List ℕ = c.loop-fits.left.now in
    let s : List ℕ = c.loop-fits.fits.now in
    let name : c.split_at_byte.result.0.now ≡ (row_in t).0 = c.split_at_byte.ensures.before in
    let later : c.split_at_byte-in-loop-fits.result.1.now ≡ later_in t = c.split_at_byte-in-loop-fits.ensures.after ∙ ap (λ (x : List ℕ). drop (suc (prefix_len not_zero x)) x) c.split_at_byte.ensures.after in
    let past : is_past (row_in t).0 s ≡ true = ap (λ n. is_past n s) (sym name) ∙ sym c.is_past.ensures ∙ c.if-is_past.true in
    record {
      row = c.loop-fits.invariant.row ∙ past_row t s past ∙ ap (λ x. first_row (rows x) s) (sym later);
      order = ap (λ x. are_in_order (rows x)) later ∙ later_order t c.loop-fits.invariant.order;
      fits = c.loop-fits.invariant.fits;
    }

pub slice_bounds-fits-end : goal.slice_bounds-fits-end
slice_bounds-fits-end c =
    let s : List ℕ = c.loop-fits.fits.now in
    let le = common_prefix_len-le ◌==◌ c.split_at_byte.result.0.now s in
    let is = c.shared_len-shared.ensures in
    sym (length-take-le c.shared_len-shared.result s (omega (arith, le.1)))

pub rows_near-left-requires-else-is_past : goal.rows_near-left-requires-else-is_past
rows_near-left-requires-else-is_past c =
    let t : List ℕ = c.loop-fits.left.now in
    let later : c.split_at_byte-in-loop-fits.result.1.now ≡ later_in t = c.split_at_byte-in-loop-fits.ensures.after ∙ ap (λ (x : List ℕ). drop (suc (prefix_len not_zero x)) x) c.split_at_byte.ensures.after in
    ap (λ x. are_in_order (rows x)) later ∙ later_order t c.loop-fits.invariant.order

pub loop-fits-preserved : goal.loop-fits-preserved
loop-fits-preserved c =
    let t : List ℕ = c.loop-fits.left.now in
    let s : List ℕ = c.loop-fits.fits.now in
    let n : List ℕ = c.split_at_byte.result.0.now in
    let k : ℕ = c.shared_len-shared.result in
    let name : n ≡ (row_in t).0 = c.split_at_byte.ensures.before in
    let later : c.split_at_byte-in-loop-fits.result.1.now ≡ later_in t = c.split_at_byte-in-loop-fits.ensures.after ∙ ap (λ (x : List ℕ). drop (suc (prefix_len not_zero x)) x) c.split_at_byte.ensures.after in
    let before : is_past (row_in t).0 s ≡ false = ap (λ x. is_past x s) (sym name) ∙ sym c.is_past.ensures ∙ c.if-is_past.false in
    let unfit : starts_with ◌==◌ s (row_in t).0 ≡ false = ap (starts_with ◌==◌ s) (sym name) ∙ unshared_unfit n s (λ e. c.if-shared-name.false (c.shared_len-shared.ensures ∙ e)) in
    let shared : common_prefix_len ◌==◌ (row_in t).0 s ≡ k = ap (λ x. common_prefix_len ◌==◌ x s) (sym name) ∙ sym c.shared_len-shared.ensures in
    record {
      row = c.loop-fits.invariant.row ∙ row_before t s c.loop-fits.invariant.order before unfit
          ∙ ap₂ (λ x j. first_row (rows x) (take j s)) (sym later) shared ∙ sym c.rows_near-left-else-is_past.ensures.row;
      order = c.rows_near-left-else-is_past.ensures.order;
      fits = let less = length-take k s in omega arith;
    }

pub loop-fits-smaller-then-is_past : goal.loop-fits-smaller-then-is_past
loop-fits-smaller-then-is_past c =
    let t : List ℕ = c.loop-fits.left.now in
    let some : 0 < length t = (let empty : (length t == 0) ≡ false = sym c.is_empty.ensures ∙ c.loop-fits-test.true in let ne = eqb-false (length t) 0 empty in omega arith) in
    let later : c.split_at_byte-in-loop-fits.result.1.now ≡ later_in t = c.split_at_byte-in-loop-fits.ensures.after ∙ ap (λ (x : List ℕ). drop (suc (prefix_len not_zero x)) x) c.split_at_byte.ensures.after in
    let less = later_less t some in
    let len : length c.split_at_byte-in-loop-fits.result.1.now ≡ length (later_in t) = ap length later in
    omega arith

pub loop-fits-smaller : goal.loop-fits-smaller
loop-fits-smaller c =
    let t : List ℕ = c.loop-fits.left.now in
    let some : 0 < length t = (let empty : (length t == 0) ≡ false = sym c.is_empty.ensures ∙ c.loop-fits-test.true in let ne = eqb-false (length t) 0 empty in omega arith) in
    let later : c.split_at_byte-in-loop-fits.result.1.now ≡ later_in t = c.split_at_byte-in-loop-fits.ensures.after ∙ ap (λ (x : List ℕ). drop (suc (prefix_len not_zero x)) x) c.split_at_byte.ensures.after in
    let less = later_less t some in
    let len : length c.split_at_byte-in-loop-fits.result.1.now ≡ length (later_in t) = ap length later in
    let near = c.rows_near-left-else-is_past.ensures.within in
    omega arith
