-- Which rows stand in contents, one after the other.
use Rattle.std.proofs.Common.{◌≡◌, ◌<◌, ◌≤◌, ◌+◌, ◌↔◌, ◌⊎◌, ℕ, Option, None, Some, ap, length, arith, inl, inr, refl, slice_get, subst, sym, ◌∙◌}
use Rattle.std.proofs.lemmas.Bool.{cases_lt}
use Rattle.std.proofs.lemmas.Option.{none-some, same_Some}
use Rattle.std.specs.Option.{option_map}
use Rattle.tl_css.specs.Selector.{Css}
use Rattle.tl_tree.specs.Asked.{end_at, node_at}
use Rattle.tl_tree.specs.Rows.{IsInRange, Row, contents}
use Rattle.tl_tree_select.specs.Inner.Finding.{EndsContents, IsFoundFrom, IsHidden, IsNext}
use Rattle.tl_tree_select.specs.declared.passing.Place.{Place}
use Rattle.tl_tree_select.specs.Meaning.{IsFirst, IsFound}
use Rattle.tl_tree_select.specs.Page.{Page}
use Rattle.tl_tree_select.proofs.Marks.{holds_within}

pub none_ends : (page : Page) (start : ℕ) → EndsContents page start start 0
none_ends page start n le = (λ h. absurd (omega (arith, h)), λ h. absurd (omega (arith, h.1, h.2)))

pub row_by : (o : Option Row) (end : ℕ) → option_map (λ (row : Row). row.end) o ≡ Some end → (row : Row) × (o ≡ Some row) × (row.end ≡ end)
row_by None end e = absurd (none-some end e)
row_by (Some row) end e = (row, refl, same_Some row.end end e)

-- no contents stand at a number
pub same_ends : (page : Page) (start number behind : ℕ) → (node_at page.rows number ≡ Some contents → ⊥) → EndsContents page start number behind → EndsContents page start (number + 1) behind
same_ends page start number behind other ends n le = (
  λ h. (let old = (ends n (omega (arith, le))).0 h in (old.0, old.1, omega (arith, old.2), old.3, old.4)),
  λ h. elim (cases_lt h.0 number) as (λ _. n < behind) [
    | inl lt ↦ (ends n (omega (arith, le))).1 (h.0, h.1, lt, h.3, h.4)
    | inr ge ↦ absurd (other (subst (λ (m : ℕ). node_at page.rows m ≡ Some contents) (let here : h.0 ≡ number = omega (arith, h.2, ge) in here) h.3))
  ],
)

-- contents stand there: what is behind both ends is behind them
pub more_ends : (page : Page) (start number behind end most : ℕ) → start ≤ number → node_at page.rows number ≡ Some contents → end_at page.rows number ≡ Some end
    → behind ≤ most → end ≤ most → (most ≡ behind) ⊎ (most ≡ end) → EndsContents page start number behind → EndsContents page start (number + 1) most
more_ends page start number behind end most from here at b e either ends n le =
    let old = ends n (omega (arith, le)) in
    let own = row_by (slice_get page.rows number) end at in (
      λ h. elim (cases_lt n behind) as (λ _. (m : ℕ) × (start ≤ m) × (m < number + 1) × (node_at page.rows m ≡ Some contents) × IsInRange page.rows m n) [
        | inl lt ↦ (let was = old.0 lt in (was.0, was.1, omega (arith, was.2), was.3, was.4))
        | inr ge ↦ (number, from, omega arith, here, (own.0, own.1, omega (arith, le), below n h ge own.0.end own.2))
      ],
      λ h. elim (cases_lt h.0 number) as (λ _. n < most) [
        | inl lt ↦ (let was = old.1 (h.0, h.1, lt, h.3, h.4) in omega (arith, was, b))
        | inr ge ↦ (
            let same : h.0 ≡ number = omega (arith, h.2, ge) in
            let one : Some own.0 ≡ Some h.4.0 = sym own.1 ∙ ap (slice_get page.rows) (sym same) ∙ h.4.1 in
            let ends_alike : own.0.end ≡ h.4.0.end = ap (λ (row : Row). row.end) (same_Some own.0 h.4.0 one) in
            let lt = h.4.3 in
            let is = own.2 in
            omega (arith, lt, ends_alike, is, e))
      ],
    )
  where
    below : (n : ℕ) → n < most → behind ≤ n → (own : ℕ) → own ≡ end → n < own
    below n h ge own is = elim either as (λ _. n < own) [
      | inl same ↦ absurd (omega (arith, h, ge, same))
      | inr same ↦ omega (arith, h, same, is)
    ]

pub in_contents : (page : Page) (start number behind : ℕ) → EndsContents page start number behind → (number < behind) ↔ IsHidden page start number
in_contents page start number behind ends =
    let here = ends number (omega arith) in (
      λ h. (let was = here.0 h in (was.0, was.1, was.3, was.4)),
      λ h. here.1 (h.0, h.1, h.3.2, h.2, h.3),
    )

-- a search from the front is one of the document
pub from_front : (page : Page) (e : Css) (n : ℕ) → IsFoundFrom page e 0 n ↔ IsFound page e n
from_front page e n = (
  λ h. (h.0, λ k. h.2 (k.0, omega arith, k.1, k.2)),
  λ h. (h.0, omega arith, λ k. h.1 (k.0, k.2, k.3)),
)

-- The first one that is found

pub found_nowhere : (page : Page) (e : Css) (len : ℕ) → len ≡ length page.rows → ((n : ℕ) → 0 ≤ n → n < len → IsFoundFrom page e 0 n → ⊥)
    → (n : ℕ) → IsFound page e n → ⊥
found_nowhere page e len all none n h =
    let w = holds_within page e n h.0 in
    none n (omega arith) (omega (arith, w, all)) ((from_front page e n).1 h)

pub is_first : (page : Page) (e : Css) (end : ℕ) (at : Place) → IsNext page e 0 0 end at → IsFirst page e at.number
is_first page e end at next = record {
  found = (from_front page e at.number).0 next.found;
  first = λ m h. elim (cases_lt m at.number) [
    | inl less ↦ absurd (next.first m (omega arith) less ((from_front page e m).1 h))
    | inr ge ↦ ge
  ];
}
