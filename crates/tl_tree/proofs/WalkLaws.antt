-- The children of a row are those that stand in it, and its ancestors those whose range has it.
use Rattle.std.proofs.Common.{List, None, Option, Some, [], ap, arith, false, inl, inr, length, nat_lt, refl, slice_get, slice_index_or, subst, suc, sym, zero, ℕ, ◌+◌, ◌-◌, ◌<◌, ◌∙◌, ◌≡◌, ◌≤◌, ◌↔◌, ◌⊎◌, ◌∷◌}
use Rattle.std.proofs.lemmas.Bool.{cases_lt, lt-ltb, ltb-true}
use Rattle.std.proofs.lemmas.Option.{none-some, same_Some}
use Rattle.std.specs.List.{Contains}
use Rattle.std.specs.Option.{option_and_then, option_map, unwrap_or}
use Rattle.tl_dom_spec.specs.HtmlForest.{HtmlForest}
use Rattle.tl_tree.proofs.RowLaws.{get-some, parent_before, parent_holds, parent_innermost, ranges_nest, row_end}
use Rattle.tl_tree.proofs.Walked.{bool-cases, siblings-more, siblings-past}
use Rattle.tl_tree.specs.Asked.{ancestors_at, ancestors_from, ancestors_up_from, children_at, end_or, parent_at, siblings_from}
use Rattle.tl_tree.specs.Rows.{IsInRange, Row, rows_of}

-- Elements of a list

contains-none : (k : ℕ) → Contains [] k → ⊥
contains-none k c = let l = c.1 in omega (arith, l)

contains-first : (x : ℕ) (xs : List ℕ) → Contains (x ∷ xs) x
contains-first x xs = (0, omega arith, refl)

contains-more : (x y : ℕ) (xs : List ℕ) → Contains xs y → Contains (x ∷ xs) y
contains-more x y xs c = (suc c.0, (let l = c.1 in omega (arith, l)), c.2)

contains-cases : (x y : ℕ) (xs : List ℕ) → Contains (x ∷ xs) y → (x ≡ y) ⊎ Contains xs y
contains-cases x y xs c = contains-at x y xs c.0 c.1 c.2
  where
    contains-at : (x y : ℕ) (xs : List ℕ) (k : ℕ) → k < length (x ∷ xs) → slice_index_or (x ∷ xs) k y ≡ y → (x ≡ y) ⊎ Contains xs y
    contains-at x y xs zero l e = inl e
    contains-at x y xs (suc k) l e = inr (k, omega (arith, l), e)

-- Rows by their numbers

row-cases : (o : Option Row) → (o ≡ None) ⊎ ((row : Row) × (o ≡ Some row))
row-cases None = inl refl
row-cases (Some row) = inr (row, refl)

-- what a row stands in
at-parent : (trees : HtmlForest) (k p : ℕ) → parent_at (rows_of trees) k ≡ Some p → (row : Row) × (slice_get (rows_of trees) k ≡ Some row) × (row.parent ≡ Some p)
at-parent trees k p e =
    elim (row-cases (slice_get (rows_of trees) k)) as (λ _. (row : Row) × (slice_get (rows_of trees) k ≡ Some row) × (row.parent ≡ Some p)) [
      | inl none ↦ absurd (none-some p (sym (ap (option_and_then (λ (row : Row). row.parent)) none) ∙ e))
      | inr some ↦ (some.0, some.1, sym (ap (option_and_then (λ (row : Row). row.parent)) some.1) ∙ e)
    ]

parent-found : (trees : HtmlForest) (k p : ℕ) (row : Row) → slice_get (rows_of trees) k ≡ Some row → row.parent ≡ Some p → parent_at (rows_of trees) k ≡ Some p
parent-found trees k p row e is = ap (option_and_then (λ (row : Row). row.parent)) e ∙ is

-- Children

-- what stands between a row and a number ends there at the latest
abbrev IsBoundary : HtmlForest → ℕ → ℕ → Type 0
IsBoundary trees n start = (j : ℕ) (row : Row) → n < j → j < start → slice_get (rows_of trees) j ≡ Some row → row.end ≤ start

child-here : (trees : HtmlForest) (n start : ℕ) (own row : Row) → slice_get (rows_of trees) n ≡ Some own → slice_get (rows_of trees) start ≡ Some row → n < start → start < own.end → IsBoundary trees n start → row.parent ≡ Some n
child-here trees n start own row e f l m bound =
    let up = parent_innermost trees n start row f (own, e, l, m) in
    let before = parent_before trees start row up.0 f up.1 in
    let above = up.2 in
    elim (cases_lt n up.0) as (λ _. row.parent ≡ Some n) [
      | inl less ↦ (
          let range = parent_holds trees start row up.0 f up.1 in
          let ends = bound up.0 range.0 less before range.1 in
          let reaches = range.3 in
          absurd (let g : ⊥ = omega (arith, ends, reaches) in g))
      | inr more ↦ (let same : up.0 ≡ n = omega (arith, above, more) in up.1 ∙ ap (λ v. Some v) same)
    ]

next-boundary : (trees : HtmlForest) (n start : ℕ) (row : Row) → slice_get (rows_of trees) start ≡ Some row → IsBoundary trees n start → IsBoundary trees n row.end
next-boundary trees n start row e bound j other l m f =
    let own = (row_end trees start row e).0 in
    elim (cases_lt j start) as (λ _. other.end ≤ row.end) [
      | inl less ↦ (let ends = bound j other l less f in omega (arith, ends, own))
      | inr more ↦ elim (cases_lt start j) as (λ _. other.end ≤ row.end) [
        | inl less ↦ elim (ranges_nest trees start j row other less e f) as (λ _. other.end ≤ row.end) [
          | inl apart ↦ absurd (let g : ⊥ = omega (arith, apart, m) in g)
          | inr inner ↦ inner
        ]
        | inr also ↦ (
            let at : start ≡ j = omega (arith, more, also) in
            let same = same_Some row other (sym e ∙ (ap (slice_get (rows_of trees)) at ∙ f)) in
            let ends : row.end ≡ other.end = ap (λ (r : Row). r.end) same in
            omega (arith, ends))
      ]
    ]

-- no children come at or behind the end
past-children : (trees : HtmlForest) (n start k : ℕ) (own : Row) → slice_get (rows_of trees) n ≡ Some own → own.end ≤ start → parent_at (rows_of trees) k ≡ Some n → start ≤ k → ⊥
past-children trees n start k own e past is more =
    let at = at-parent trees k n is in
    let range = parent_holds trees k at.0 n at.1 at.2 in
    let same = same_Some own range.0 (sym e ∙ range.1) in
    let ends : own.end ≡ range.0.end = ap (λ (r : Row). r.end) same in
    let reaches = range.3 in
    omega (arith, past, more, ends, reaches)

not-less : (a b : ℕ) → nat_lt a b ≡ false → b ≤ a
not-less a b e = elim (cases_lt a b) as (λ _. b ≤ a) [
  | inl less ↦ absurd (let lt = lt-ltb a b less in let f : ⊥ = cc in f)
  | inr more ↦ more
]

walked : (trees : HtmlForest) (n k : ℕ) (own : Row) → slice_get (rows_of trees) n ≡ Some own → (f start : ℕ) → n < start → own.end ≤ start + f → IsBoundary trees n start →
    (Contains (siblings_from (rows_of trees) f start own.end) k → parent_at (rows_of trees) k ≡ Some n)
    × (parent_at (rows_of trees) k ≡ Some n → start ≤ k → Contains (siblings_from (rows_of trees) f start own.end) k)
walked trees n k own e zero start l most bound = (
  λ c. absurd (contains-none k c),
  λ is more. absurd (past-children trees n start k own e (omega (arith, most)) is more),
)
walked trees n k own e (suc f) start l most bound =
    let R = rows_of trees in
    elim (bool-cases (nat_lt start own.end)) as (λ _. (Contains (siblings_from R (suc f) start own.end) k → parent_at R k ≡ Some n) × (parent_at R k ≡ Some n → start ≤ k → Contains (siblings_from R (suc f) start own.end) k)) [
      | inl less ↦ (
          let m = ltb-true start own.end less in
          let long = (row_end trees n own e).1 in
          let got = get-some R start (omega (arith, m, long)) in
          let row = got.0 in
          let up = child-here trees n start own row e got.1 l m bound in
          let behind = (row_end trees start row got.1).0 in
          let next : end_or R start own.end ≡ row.end = ap (λ o. unwrap_or (option_map (λ (r : Row). r.end) o) own.end) got.1 in
          let list = siblings-more R f start own.end less ∙ ap (λ v. start ∷ siblings_from R f v own.end) next in
          let rest = walked trees n k own e f row.end (omega (arith, l, behind)) (omega (arith, most, behind)) (next-boundary trees n start row got.1 bound) in
          subst (λ v. (Contains v k → parent_at R k ≡ Some n) × (parent_at R k ≡ Some n → start ≤ k → Contains v k)) (sym list) (
            λ c. elim (contains-cases start k (siblings_from R f row.end own.end) c) as (λ _. parent_at R k ≡ Some n) [
              | inl at ↦ subst (λ v. parent_at R v ≡ Some n) at (parent-found trees start n row got.1 up)
              | inr more ↦ rest.0 more
            ],
            λ is more. elim (cases_lt start k) as (λ _. Contains (start ∷ siblings_from R f row.end own.end) k) [
              | inl further ↦ elim (cases_lt k row.end) as (λ _. Contains (start ∷ siblings_from R f row.end own.end) k) [
                | inl inside ↦ (
                    let at = at-parent trees k n is in
                    let inner = parent_innermost trees start k at.0 at.1 (row, got.1, further, inside) in
                    let same = same_Some n inner.0 (sym at.2 ∙ inner.1) in
                    let above = inner.2 in
                    absurd (let g : ⊥ = omega (arith, same, above, l) in g))
                | inr past ↦ contains-more start k (siblings_from R f row.end own.end) (rest.1 is past)
              ]
              | inr here ↦ (let at : start ≡ k = omega (arith, more, here) in subst (λ v. Contains (start ∷ siblings_from R f row.end own.end) v) at (contains-first start (siblings_from R f row.end own.end)))
            ],
          ))
      | inr past ↦ (
          let list = siblings-past R f start own.end past in
          let ends = not-less start own.end past in
          subst (λ v. (Contains v k → parent_at R k ≡ Some n) × (parent_at R k ≡ Some n → start ≤ k → Contains v k)) (sym list) (
            λ c. absurd (contains-none k c),
            λ is more. absurd (past-children trees n start k own e ends is more),
          ))
    ]

pub children_parents : (trees : HtmlForest) (n k : ℕ) → Contains (children_at (rows_of trees) n) k ↔ parent_at (rows_of trees) k ≡ Some n
children_parents trees n k =
    let R = rows_of trees in
    elim (row-cases (slice_get R n)) as (λ _. Contains (children_at R n) k ↔ parent_at R k ≡ Some n) [
      | inl none ↦ (
          let end : end_or R n 0 ≡ 0 = ap (λ o. unwrap_or (option_map (λ (r : Row). r.end) o) 0) none in
          let list : children_at R n ≡ [] = ap (λ v. siblings_from R (v - (n + 1)) (n + 1) v) end ∙ (let nothing : 0 - (n + 1) ≡ 0 = omega arith in ap (λ v. siblings_from R v (n + 1) 0) nothing) in
          subst (λ v. Contains v k ↔ parent_at R k ≡ Some n) (sym list) (
            λ c. absurd (contains-none k c),
            λ is. (
                let at = at-parent trees k n is in
                let range = parent_holds trees k at.0 n at.1 at.2 in
                absurd (none-some range.0 (sym none ∙ range.1))),
          ))
      | inr some ↦ (
          let own = some.0 in
          let end : end_or R n 0 ≡ own.end = ap (λ o. unwrap_or (option_map (λ (r : Row). r.end) o) 0) some.1 in
          let list : children_at R n ≡ siblings_from R (own.end - (n + 1)) (n + 1) own.end = ap (λ v. siblings_from R (v - (n + 1)) (n + 1) v) end in
          let all = walked trees n k own some.1 (own.end - (n + 1)) (n + 1) (omega arith) (omega arith) (λ j row l m f. absurd (let g : ⊥ = omega (arith, l, m) in g)) in
          subst (λ v. Contains v k ↔ parent_at R k ≡ Some n) (sym list) (
            all.0,
            λ is. all.1 is (
                let at = at-parent trees k n is in
                let before = parent_before trees k at.0 n at.1 at.2 in
                omega (arith, before)),
          ))
    ]

-- Ancestors

further-range : (trees : HtmlForest) (q p k : ℕ) → IsInRange (rows_of trees) q p → IsInRange (rows_of trees) p k → IsInRange (rows_of trees) q k
further-range trees q p k far near =
    let first = far.2 in
    let second = near.2 in
    let own = near.3 in
    let reaches = far.3 in (
      far.0,
      far.1,
      omega (arith, first, second),
      elim (ranges_nest trees q p far.0 near.0 first far.1 near.1) as (λ _. k < far.0.end) [
        | inl m ↦ absurd (let f : ⊥ = omega (arith, m, reaches) in f)
        | inr m ↦ omega (arith, m, own)
      ],
    )

up-range : (trees : HtmlForest) (q p : ℕ) → parent_at (rows_of trees) p ≡ Some q → IsInRange (rows_of trees) q p
up-range trees q p e = let at = at-parent trees p q e in parent_holds trees p at.0 q at.1 at.2

-- a row whose range has another is the one that this stands in, or its range has that one
range-up : (trees : HtmlForest) (q p : ℕ) → IsInRange (rows_of trees) q p → (parent_at (rows_of trees) p ≡ Some q) ⊎ ((r : ℕ) × (parent_at (rows_of trees) p ≡ Some r) × IsInRange (rows_of trees) q r)
range-up trees q p range =
    let R = rows_of trees in
    let long = (row_end trees q range.0 range.1).1 in
    let reaches = range.3 in
    let got = get-some R p (omega (arith, reaches, long)) in
    let inner = parent_innermost trees q p got.0 got.1 range in
    let before = parent_before trees p got.0 inner.0 got.1 inner.1 in
    let above = inner.2 in
    let is = parent-found trees p inner.0 got.0 got.1 inner.1 in
    elim (cases_lt q inner.0) as (λ _. (parent_at R p ≡ Some q) ⊎ ((r : ℕ) × (parent_at R p ≡ Some r) × IsInRange R q r)) [
      | inl less ↦ inr (inner.0, is, (range.0, range.1, less, omega (arith, before, reaches)))
      | inr more ↦ inl (let same : inner.0 ≡ q = omega (arith, above, more) in is ∙ ap (λ v. Some v) same)
    ]

ancestors-in : (trees : HtmlForest) (q : ℕ) (f : ℕ) (o : Option ℕ) → Contains (ancestors_from (rows_of trees) f o) q → (o ≡ Some q) ⊎ ((p : ℕ) × (o ≡ Some p) × IsInRange (rows_of trees) q p)
ancestors-in trees q zero None c = absurd (contains-none q c)
ancestors-in trees q (suc f) None c = absurd (contains-none q c)
ancestors-in trees q zero (Some p) c = absurd (contains-none q c)
ancestors-in trees q (suc f) (Some p) c =
    let R = rows_of trees in
    elim (contains-cases p q (ancestors_from R f (parent_at R p)) c) as (λ _. (Some p ≡ Some q) ⊎ ((r : ℕ) × (Some p ≡ Some r) × IsInRange R q r)) [
      | inl at ↦ inl (ap (λ v. Some v) at)
      | inr more ↦ elim (ancestors-in trees q f (parent_at R p) more) as (λ _. (Some p ≡ Some q) ⊎ ((r : ℕ) × (Some p ≡ Some r) × IsInRange R q r)) [
        | inl is ↦ inr (p, refl, up-range trees q p is)
        | inr far ↦ inr (p, refl, further-range trees q far.0 p far.2 (up-range trees far.0 p far.1))
      ]
    ]

ancestors-all : (trees : HtmlForest) (q : ℕ) (f p : ℕ) → p < f → (p ≡ q) ⊎ IsInRange (rows_of trees) q p → Contains (ancestors_from (rows_of trees) f (Some p)) q
ancestors-all trees q zero p l h = absurd (let g : ⊥ = omega (arith, l) in g)
ancestors-all trees q (suc f) p l (inl at) =
    let R = rows_of trees in
    subst (λ v. Contains (p ∷ ancestors_from R f (parent_at R p)) v) at (contains-first p (ancestors_from R f (parent_at R p)))
ancestors-all trees q (suc f) p l (inr range) =
    let R = rows_of trees in
    contains-more p q (ancestors_from R f (parent_at R p))
    (elim (range-up trees q p range) as (λ _. Contains (ancestors_from R f (parent_at R p)) q) [
      | inl is ↦ (let before = (up-range trees q p is).2 in
          subst (λ o. Contains (ancestors_from R f o) q) (sym is) (ancestors-all trees q f q (omega (arith, before, l)) (inl refl)))
      | inr far ↦ (let before = (up-range trees far.0 p far.1).2 in
          subst (λ o. Contains (ancestors_from R f o) q) (sym far.1) (ancestors-all trees q f far.0 (omega (arith, before, l)) (inr far.2)))
    ])

up-in : (trees : HtmlForest) (q : ℕ) (o : Option ℕ) → Contains (ancestors_up_from (rows_of trees) o) q → (o ≡ Some q) ⊎ ((p : ℕ) × (o ≡ Some p) × IsInRange (rows_of trees) q p)
up-in trees q None c = absurd (contains-none q c)
up-in trees q (Some p) c = ancestors-in trees q (suc p) (Some p) c

pub ancestors_ranges : (trees : HtmlForest) (n q : ℕ) → Contains (ancestors_at (rows_of trees) n) q ↔ IsInRange (rows_of trees) q n
ancestors_ranges trees n q =
    let R = rows_of trees in (
      λ c. elim (up-in trees q (parent_at R n) c) as (λ _. IsInRange R q n) [
        | inl is ↦ up-range trees q n is
        | inr far ↦ further-range trees q far.0 n far.2 (up-range trees far.0 n far.1)
      ],
      λ range. elim (range-up trees q n range) as (λ _. Contains (ancestors_at R n) q) [
        | inl is ↦ subst (λ o. Contains (ancestors_up_from R o) q) (sym is) (ancestors-all trees q (suc q) q (omega arith) (inl refl))
        | inr far ↦ subst (λ o. Contains (ancestors_up_from R o) q) (sym far.1) (ancestors-all trees q (suc far.0) far.0 (omega arith) (inr far.2))
      ],
    )
