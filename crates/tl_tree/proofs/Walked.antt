-- A step of a walk over rows.
use Rattle.std.proofs.Common.{Bool, IsTrue, List, None, Option, Some, [], ap, arith, false, inl, inr, nat_le, nat_lt, refl, slice_get, subst, suc, sym, true, zero, ℕ, ◌&&◌, ◌+◌, ◌-◌, ◌<◌, ◌∙◌, ◌≡◌, ◌≤◌, ◌⊎◌, ◌∷◌}
use Rattle.std.proofs.lemmas.Bool.{and_parts, leb-true, lt-ltb, ltb-true}
use Rattle.std.proofs.lemmas.Option.{none-some, same_Some, slice_get-map}
use Rattle.std.specs.Option.{option_and_then, option_map, unwrap_or}
use Rattle.tl_tree.specs.Asked.{ancestors_from, ancestors_up_from, end_at, end_or, parent_at, siblings_from, siblings_up_to}
use Rattle.tl_tree.specs.Inner.RowView.{are_in_order, parent_of, row_in}
use Rattle.tl_tree.specs.Inner.Store.{text_of}
use Rattle.tl_tree.specs.Rows.{Row}
use Rattle.tl_tree.specs.TreeView.{rows_in}
use Rattle.tl_tree.specs.declared.row.Row as code
use Rattle.tl_tree.specs.declared.tree.Tree.{Tree}

-- Rows of a tree are in order

order-at : (n k : ℕ) (own : List code.Row) (row : code.Row) → IsTrue (are_in_order n own) → slice_get own k ≡ Some row → (row.parent ≤ n + k) × (n + k < row.end)
order-at n k [] row h e = absurd (none-some row e)
order-at n zero (x ∷ own) row h e =
    let p = and_parts (nat_le x.parent n) (nat_lt n x.end && are_in_order (suc n) own) h in
    let q = and_parts (nat_lt n x.end) (are_in_order (suc n) own) p.1 in
    let up = leb-true x.parent n p.0 in
    let down = ltb-true n x.end q.0 in
    subst (λ (v : code.Row). (v.parent ≤ n + 0) × (n + 0 < v.end)) (same_Some x row e) (omega (arith, up), omega (arith, down))
order-at n (suc k) (x ∷ own) row h e =
    let p = and_parts (nat_le x.parent n) (nat_lt n x.end && are_in_order (suc n) own) h in
    let q = and_parts (nat_lt n x.end) (are_in_order (suc n) own) p.1 in
    let place : suc n + k ≡ n + suc k = omega arith in
    subst (λ v. (row.parent ≤ v) × (v < row.end)) place (order-at (suc n) k own row q.1 e)

option-cases : (o : Option code.Row) → (o ≡ None) ⊎ ((row : code.Row) × (o ≡ Some row))
option-cases None = inl refl
option-cases (Some row) = inr (row, refl)

parent-is : (parent p : ℕ) → parent_of parent ≡ Some p → parent ≡ suc p
parent-is zero p e = absurd (none-some p e)
parent-is (suc q) p e = ap suc (same_Some q p e)

got-row : (t : Tree) (n : ℕ) (o : Option code.Row) → slice_get t.rows.items n ≡ o → slice_get (rows_in t) n ≡ option_map (row_in t.store (text_of t.store)) o
got-row t n o e = slice_get-map (row_in t.store (text_of t.store)) t.rows.items n ∙ ap (option_map (row_in t.store (text_of t.store))) e

abbrev IsUp : List Row → Type 0
IsUp rows = (n p : ℕ) → parent_at rows n ≡ Some p → p < n

abbrev IsDown : List Row → Type 0
IsDown rows = (n e : ℕ) → end_at rows n ≡ Some e → n < e

up-parent : (t : Tree) → IsUp (rows_in t)
up-parent t n p e =
    elim (option-cases (slice_get t.rows.items n)) as (λ _. p < n) [
      | inl is ↦ absurd (none-some p (sym (ap (option_and_then (λ (row : Row). row.parent)) (got-row t n None is)) ∙ e))
      | inr some ↦ (
          let own = some.0 in
          let parent = parent-is own.parent p (sym (ap (option_and_then (λ (row : Row). row.parent)) (got-row t n (Some own) some.1)) ∙ e) in
          let order = (order-at 0 n t.rows.items own t.in_order some.1).0 in
          omega (arith, parent, order))
    ]

pub down-end : (t : Tree) → IsDown (rows_in t)
down-end t n e is =
    elim (option-cases (slice_get t.rows.items n)) as (λ _. n < e) [
      | inl none ↦ absurd (none-some e (sym (ap (option_map (λ (row : Row). row.end)) (got-row t n None none)) ∙ is))
      | inr some ↦ (
          let own = some.0 in
          let end = same_Some own.end e (sym (ap (option_map (λ (row : Row). row.end)) (got-row t n (Some own) some.1)) ∙ is) in
          let order = (order-at 0 n t.rows.items own t.in_order some.1).1 in
          omega (arith, end, order))
    ]

-- Ancestors

ancestors-enough : (rows : List Row) → IsUp rows → (f g : ℕ) (o : Option ℕ) → ((p : ℕ) → o ≡ Some p → p < f) → ((p : ℕ) → o ≡ Some p → p < g) → ancestors_from rows f o ≡ ancestors_from rows g o
ancestors-enough rows up zero zero o a b = refl
ancestors-enough rows up zero (suc g) None a b = refl
ancestors-enough rows up zero (suc g) (Some p) a b = absurd (let l = a p refl in let f : ⊥ = omega (arith, l) in f)
ancestors-enough rows up (suc f) zero None a b = refl
ancestors-enough rows up (suc f) zero (Some p) a b = absurd (let l = b p refl in let f : ⊥ = omega (arith, l) in f)
ancestors-enough rows up (suc f) (suc g) None a b = refl
ancestors-enough rows up (suc f) (suc g) (Some p) a b =
    let first = a p refl in
    let second = b p refl in
    ap (λ v. p ∷ v) (ancestors-enough rows up f g (parent_at rows p)
    (λ q e. (let l = up p q e in omega (arith, l, first)))
    (λ q e. (let l = up p q e in omega (arith, l, second))))

up-enough : (rows : List Row) → IsUp rows → (g : ℕ) (o : Option ℕ) → ((p : ℕ) → o ≡ Some p → p < g) → ancestors_from rows g o ≡ ancestors_up_from rows o
up-enough rows up zero None b = refl
up-enough rows up (suc g) None b = refl
up-enough rows up g (Some p) b = ancestors-enough rows up g (suc p) (Some p) b (λ q e. (let same = same_Some p q e in omega (arith, same)))

pub ancestors-step : (t : Tree) (n : ℕ) (o : Option ℕ) → o ≡ Some n → ancestors_up_from (rows_in t) o ≡ n ∷ ancestors_up_from (rows_in t) (parent_at (rows_in t) n)
ancestors-step t n o e =
    ap (ancestors_up_from (rows_in t)) e
    ∙ ap (λ v. n ∷ v) (up-enough (rows_in t) (up-parent t) n (parent_at (rows_in t) n) (up-parent t n))

-- Siblings

pub bool-cases : (b : Bool) → (b ≡ true) ⊎ (b ≡ false)
bool-cases true = inl refl
bool-cases false = inr refl

pub siblings-past : (rows : List Row) (f number end : ℕ) → nat_lt number end ≡ false → siblings_from rows (suc f) number end ≡ []
siblings-past rows f number end e =
    subst (λ b. (elim b as (λ _. List ℕ) [ true ↦ number ∷ siblings_from rows f (end_or rows number end) end | false ↦ [] ]) ≡ []) (sym e) refl

pub siblings-more : (rows : List Row) (f number end : ℕ) → nat_lt number end ≡ true → siblings_from rows (suc f) number end ≡ number ∷ siblings_from rows f (end_or rows number end) end
siblings-more rows f number end e =
    subst (λ b. (elim b as (λ _. List ℕ) [ true ↦ number ∷ siblings_from rows f (end_or rows number end) end | false ↦ [] ]) ≡ number ∷ siblings_from rows f (end_or rows number end) end) (sym e) refl

pub or-less : (o : Option ℕ) (number end : ℕ) → ((e : ℕ) → o ≡ Some e → number < e) → number < end → number < unwrap_or o end
or-less None number end f l = l
or-less (Some e) number end f l = f e refl

pub not-past : (number end : ℕ) → end ≤ number → nat_lt number end ≡ false
not-past number end l =
    elim (bool-cases (nat_lt number end)) as (λ _. nat_lt number end ≡ false) [
      | inl e ↦ absurd (let less = ltb-true number end e in let f : ⊥ = omega (arith, less, l) in f)
      | inr e ↦ e
    ]

siblings-enough : (rows : List Row) → IsDown rows → (f g number end : ℕ) → end ≤ number + f → end ≤ number + g → siblings_from rows f number end ≡ siblings_from rows g number end
siblings-enough rows down zero zero number end a b = refl
siblings-enough rows down zero (suc g) number end a b = sym (siblings-past rows g number end (not-past number end (omega (arith, a))))
siblings-enough rows down (suc f) zero number end a b = siblings-past rows f number end (not-past number end (omega (arith, b)))
siblings-enough rows down (suc f) (suc g) number end a b =
    elim (bool-cases (nat_lt number end)) as (λ _. siblings_from rows (suc f) number end ≡ siblings_from rows (suc g) number end) [
      | inl e ↦ (
          let less = ltb-true number end e in
          let more = or-less (end_at rows number) number end (down number) less in
          siblings-more rows f number end e
          ∙ (ap (λ v. number ∷ v) (siblings-enough rows down f g (end_or rows number end) end (omega (arith, a, more)) (omega (arith, b, more)))
          ∙ sym (siblings-more rows g number end e)))
      | inr e ↦ siblings-past rows f number end e ∙ sym (siblings-past rows g number end e)
    ]

pub siblings-step : (t : Tree) (number end : ℕ) → number < end → siblings_up_to (rows_in t) number end ≡ number ∷ siblings_up_to (rows_in t) (end_or (rows_in t) number end) end
siblings-step t number end l =
    let rows = rows_in t in
    let most : end - number ≡ suc (end - number - 1) = omega (arith, l) in
    let next = end_or rows number end in
    let more = or-less (end_at rows number) number end (down-end t number) l in
    ap (λ v. siblings_from rows v number end) most
    ∙ (siblings-more rows (end - number - 1) number end (lt-ltb number end l)
    ∙ ap (λ v. number ∷ v) (siblings-enough rows (down-end t) (end - number - 1) (end - next) next end (omega (arith, more, l)) (omega arith)))
