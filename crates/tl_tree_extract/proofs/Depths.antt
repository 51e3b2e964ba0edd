-- How many rows a row is below.
use Rattle.std.proofs.Common.{IsTrue, List, None, Option, Some, [], ap, arith, get_or, inl, inr, length, length-append, nat_le, nat_lt, refl, slice_get, subst, suc, sym, zero, ℕ, ◌&&◌, ◌+◌, ◌<◌, ◌∙◌, ◌≡◌, ◌≤◌, ◌⊎◌, ◌∷◌}
use Rattle.std.proofs.lemmas.Bool.{and_parts, cases_lt, leb-true}
use Rattle.std.proofs.lemmas.List.{get_or_append_left, get_or_at}
use Rattle.std.proofs.lemmas.Option.{none-some, same_Some, slice_get-map}
use Rattle.std.specs.Option.{option_and_then, option_map}
use Rattle.tl_tree.proofs.Walked.{ancestors-step}
use Rattle.tl_tree.specs.Asked.{ancestors_from, ancestors_up_from, parent_at}
use Rattle.tl_tree.specs.Inner.RowView.{are_in_order, parent_of, row_in}
use Rattle.tl_tree.specs.Inner.Store.{text_of}
use Rattle.tl_tree.specs.Rows.{Row}
use Rattle.tl_tree.specs.TreeView.{rows_in}
use Rattle.tl_tree.specs.declared.row.Row as code
use Rattle.tl_tree.specs.declared.tree.Tree.{Tree}
use Rattle.tl_tree_extract.specs.Inner.Depths.{depths_before}
use Rattle.tl_tree_extract.specs.NodeOutline.{depth_at}

-- A row stands in one before it

order-at : (n k : ℕ) (own : List code.Row) (row : code.Row) → IsTrue (are_in_order n own) → slice_get own k ≡ Some row → row.parent ≤ n + k
order-at n k [] row h e = absurd (none-some row e)
order-at n zero (x ∷ own) row h e =
    let up = leb-true x.parent n (and_parts (nat_le x.parent n) (nat_lt n x.end && are_in_order (suc n) own) h).0 in
    subst (λ (v : code.Row). v.parent ≤ n + 0) (same_Some x row e) (omega (arith, up))
order-at n (suc k) (x ∷ own) row h e =
    let p = and_parts (nat_le x.parent n) (nat_lt n x.end && are_in_order (suc n) own) h in
    let q = and_parts (nat_lt n x.end) (are_in_order (suc n) own) p.1 in
    let place : suc n + k ≡ n + suc k = omega arith in
    subst (λ v. row.parent ≤ v) place (order-at (suc n) k own row q.1 e)

option-cases : (o : Option code.Row) → (o ≡ None) ⊎ ((row : code.Row) × (o ≡ Some row))
option-cases None = inl refl
option-cases (Some row) = inr (row, refl)

parent-is : (parent p : ℕ) → parent_of parent ≡ Some p → parent ≡ suc p
parent-is zero p e = absurd (none-some p e)
parent-is (suc q) p e = ap suc (same_Some q p e)

got-row : (t : Tree) (n : ℕ) (o : Option code.Row) → slice_get t.rows.items n ≡ o → slice_get (rows_in t) n ≡ option_map (row_in t.store (text_of t.store)) o
got-row t n o e = slice_get-map (row_in t.store (text_of t.store)) t.rows.items n ∙ ap (option_map (row_in t.store (text_of t.store))) e

pub parent_before : (t : Tree) (n p : ℕ) → parent_at (rows_in t) n ≡ Some p → p < n
parent_before t n p e =
    elim (option-cases (slice_get t.rows.items n)) as (λ _. p < n) [
      | inl is ↦ absurd (none-some p (sym (ap (option_and_then (λ (row : Row). row.parent)) (got-row t n None is)) ∙ e))
      | inr some ↦ (
          let own = some.0 in
          let parent = parent-is own.parent p (sym (ap (option_and_then (λ (row : Row). row.parent)) (got-row t n (Some own) some.1)) ∙ e) in
          let order = order-at 0 n t.rows.items own t.in_order some.1 in
          omega (arith, parent, order))
    ]

-- Depths

pub depth_below : (t : Tree) (n p : ℕ) → parent_at (rows_in t) n ≡ Some p → depth_at (rows_in t) n ≡ suc (depth_at (rows_in t) p)
depth_below t n p e = ap length (ancestors-step t p (parent_at (rows_in t) n) e)

few : (rows : List Row) (f : ℕ) (o : Option ℕ) → length (ancestors_from rows f o) ≤ f
few rows f None = omega arith
few rows zero (Some p) = omega arith
few rows (suc f) (Some p) = let h = few rows f (parent_at rows p) in omega (arith, h)

pub depth_few : (rows : List Row) (n p : ℕ) → parent_at rows n ≡ Some p → depth_at rows n ≤ suc p
depth_few rows n p e = subst (λ o. length (ancestors_up_from rows o) ≤ suc p) (sym e) (few rows (suc p) (Some p))

pub depths_count : (rows : List Row) (n : ℕ) → length (depths_before rows n) ≡ n
depths_count rows zero = refl
depths_count rows (suc n) =
    let h = depths_count rows n in
    let a = length-append (depths_before rows n) (depth_at rows n ∷ []) in
    omega (arith, a, h)

pub depth_got : (rows : List Row) (n p d : ℕ) → p < n → get_or (depths_before rows n) p d ≡ depth_at rows p
depth_got rows zero p d l = absurd (let g : ⊥ = omega (arith, l) in g)
depth_got rows (suc n) p d l =
    let count = depths_count rows n in
    elim (cases_lt p n) as (λ _. get_or (depths_before rows (suc n)) p d ≡ depth_at rows p) [
      | inl lt ↦ get_or_append_left (depths_before rows n) (depth_at rows n ∷ []) d p (omega (arith, lt, count)) ∙ depth_got rows n p d lt
      | inr ge ↦ (
          let same : p ≡ n = omega (arith, ge, l) in
          get_or_at (depths_before rows n) (depth_at rows n) [] d p (count ∙ sym same) ∙ ap (depth_at rows) (sym same))
    ]
