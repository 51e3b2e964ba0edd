-- Facts of the rows of trees: each stands in one before it, and there are fewer than 2 ^ 32.
use Rattle.std.proofs.Common.{IsTrue, List, None, Option, Some, [], ap, arith, inl, inr, nat_le, nat_lt, refl, slice_get, subst, suc, sym, zero, ℕ, length, ◌&&◌, ◌+◌, ◌<◌, ◌^◌, ◌∙◌, ◌≡◌, ◌≤◌, ◌⊎◌, ◌∷◌}
use Rattle.std.proofs.lemmas.Bool.{and_parts, leb-true, ltb-true}
use Rattle.std.proofs.lemmas.List.{length-map}
use Rattle.std.proofs.lemmas.Option.{none-some, same_Some, slice_get-map, slice_get_within}
use Rattle.std.specs.Option.{option_and_then, option_map}
use Rattle.tl_tree.specs.Asked.{end_at, parent_at}
use Rattle.tl_tree.specs.Inner.RowView.{are_in_order, parent_of, row_in}
use Rattle.tl_tree.specs.Inner.Store.{text_of}
use Rattle.tl_tree.specs.Rows.{Row}
use Rattle.tl_tree.specs.TreeView.{rows_in}
use Rattle.tl_tree.specs.declared.row.Row as code
use Rattle.tl_tree.specs.declared.tree.Tree.{Tree}
use Rattle.tl_tree_select.specs.Page.{Page, page_of}

abbrev pub AreParentsBefore : Page → Type 0
AreParentsBefore page = (n p : ℕ) → parent_at page.rows n ≡ Some p → p < n

order_at : (n k : ℕ) (own : List code.Row) (row : code.Row) → IsTrue (are_in_order n own) → slice_get own k ≡ Some row → row.parent ≤ n + k
order_at n k [] row h e = absurd (none-some row e)
order_at n zero (x ∷ own) row h e =
    let p = and_parts (nat_le x.parent n) (nat_lt n x.end && are_in_order (suc n) own) h in
    let up = leb-true x.parent n p.0 in
    subst (λ (v : code.Row). v.parent ≤ n + 0) (same_Some x row e) (omega (arith, up))
order_at n (suc k) (x ∷ own) row h e =
    let p = and_parts (nat_le x.parent n) (nat_lt n x.end && are_in_order (suc n) own) h in
    let q = and_parts (nat_lt n x.end) (are_in_order (suc n) own) p.1 in
    let place : suc n + k ≡ n + suc k = omega arith in
    subst (λ v. row.parent ≤ v) place (order_at (suc n) k own row q.1 e)

option_cases : (o : Option code.Row) → (o ≡ None) ⊎ ((row : code.Row) × (o ≡ Some row))
option_cases None = inl refl
option_cases (Some row) = inr (row, refl)

parent_is : (parent p : ℕ) → parent_of parent ≡ Some p → parent ≡ suc p
parent_is zero p e = absurd (none-some p e)
parent_is (suc q) p e = ap suc (same_Some q p e)

got_row : (t : Tree) (n : ℕ) (o : Option code.Row) → slice_get t.rows.items n ≡ o → slice_get (rows_in t) n ≡ option_map (row_in t.store (text_of t.store)) o
got_row t n o e = slice_get-map (row_in t.store (text_of t.store)) t.rows.items n ∙ ap (option_map (row_in t.store (text_of t.store))) e

pub tree_up : (t : Tree) → AreParentsBefore (page_of t)
tree_up t n p e =
    elim (option_cases (slice_get t.rows.items n)) as (λ _. p < n) [
      | inl is ↦ absurd (none-some p (sym (ap (option_and_then (λ (row : Row). row.parent)) (got_row t n None is)) ∙ e))
      | inr some ↦ (
          let own = some.0 in
          let parent = parent_is own.parent p (sym (ap (option_and_then (λ (row : Row). row.parent)) (got_row t n (Some own) some.1)) ∙ e) in
          let order = order_at 0 n t.rows.items own t.in_order some.1 in
          omega (arith, parent, order))
    ]

pub tree_small : (t : Tree) → length (page_of t).rows < 2 ^ 32
tree_small t = let few = t.few in let same = length-map t.rows.items (row_in t.store (text_of t.store)) in omega (arith, few, same)

end_order : (n k : ℕ) (own : List code.Row) (row : code.Row) → IsTrue (are_in_order n own) → slice_get own k ≡ Some row → n + k < row.end
end_order n k [] row h e = absurd (none-some row e)
end_order n zero (x ∷ own) row h e =
    let p = and_parts (nat_le x.parent n) (nat_lt n x.end && are_in_order (suc n) own) h in
    let q = and_parts (nat_lt n x.end) (are_in_order (suc n) own) p.1 in
    let lt = ltb-true n x.end q.0 in
    subst (λ (v : code.Row). n + 0 < v.end) (same_Some x row e) (omega (arith, lt))
end_order n (suc k) (x ∷ own) row h e =
    let p = and_parts (nat_le x.parent n) (nat_lt n x.end && are_in_order (suc n) own) h in
    let q = and_parts (nat_lt n x.end) (are_in_order (suc n) own) p.1 in
    let place : suc n + k ≡ n + suc k = omega arith in
    subst (λ v. v < row.end) place (end_order (suc n) k own row q.1 e)

-- a row ends behind itself, and rows are few
pub ends_behind : (t : Tree) (n end : ℕ) → end_at (rows_in t) n ≡ Some end → (n < end) × (n + 1 < 2 ^ 32)
ends_behind t n end e =
    elim (option_cases (slice_get t.rows.items n)) as (λ _. (n < end) × (n + 1 < 2 ^ 32)) [
      | inl is ↦ absurd (none-some end (sym (ap (option_map (λ (row : Row). row.end)) (got_row t n None is)) ∙ e))
      | inr some ↦ (
          let own = some.0 in
          let order = end_order 0 n t.rows.items own t.in_order some.1 in
          let same = same_Some own.end end (sym (ap (option_map (λ (row : Row). row.end)) (got_row t n (Some own) some.1)) ∙ e) in
          let few = t.few in
          let w = slice_get_within t.rows.items n own some.1 in
          (omega (arith, order, same), omega (arith, few, w)))
    ]

within : (rows : List Row) (n p : ℕ) → parent_at rows n ≡ Some p → n < length rows
within [] n p e = absurd (none-some p e)
within (row ∷ rows) zero p e = omega arith
within (row ∷ rows) (suc n) p e = let w = within rows n p e in omega (arith, w)

pub parent_fits : (t : Tree) (n p : ℕ) → parent_at (rows_in t) n ≡ Some p → p + 1 < 2 ^ 32
parent_fits t n p e =
    let up = tree_up t n p e in
    let w = within (rows_in t) n p e in
    let small = tree_small t in
    omega (arith, up, w, small)
