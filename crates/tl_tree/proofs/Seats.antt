-- Rows whose ends and parents are filled in are the rows of trees.
use Rattle.std.proofs.Common.{Bool, IsTrue, List, None, Option, Some, [], ap, arith, get_or, inl, inr, length, map, nat_le, refl, slice_get, slice_set, subst, suc, sym, take, zero, ℕ, ◌+◌, ◌<◌, ◌∙◌, ◌≡◌, ◌≤◌, ◌⊎◌, ◌∷◌}
use Rattle.std.proofs.lemmas.Bool.{and_parts, cases_lt, leb-true}
use Rattle.std.proofs.lemmas.List.{length-map}
use Rattle.std.proofs.lemmas.Option.{none-some, same_Some, slice_get-get_or, slice_get-map, slice_get_within}
use Rattle.std.specs.List.{list_all}
use Rattle.std.specs.Option.{option_map}
use Rattle.tl_dom_spec.specs.HtmlForest.{HtmlForest}
use Rattle.tl_tree.proofs.Gathers.{Fits}
use Rattle.tl_tree.proofs.RowLaws.{get-some, parent_holds, parent_innermost, row_numbers}
use Rattle.tl_tree.specs.Inner.Gathering.{Flat}
use Rattle.tl_tree.specs.Inner.RowView.{flat_in, held_in, parent_of, row_in}
use Rattle.tl_tree.specs.Inner.Seating.{Chained, IsInnermost, Seated}
use Rattle.tl_tree.specs.Rows as rows
use Rattle.tl_tree.specs.declared.row.Row.{Row}
use Rattle.tl_tree.specs.declared.store.Store.{Store}

-- Lists by their elements

pub same-gets : {A : Type 0} (xs ys : List A) → length xs ≡ length ys → ((k : ℕ) (x y : A) → slice_get xs k ≡ Some x → slice_get ys k ≡ Some y → x ≡ y) → xs ≡ ys
same-gets [] [] e f = refl
same-gets [] (y ∷ ys) e f = absurd (let g : ⊥ = omega (arith, e) in g)
same-gets (x ∷ xs) [] e f = absurd (let g : ⊥ = omega (arith, e) in g)
same-gets (x ∷ xs) (y ∷ ys) e f =
    ap (λ v. v ∷ xs) (f 0 x y refl refl)
    ∙ ap (λ v. y ∷ v) (same-gets xs ys (omega (arith, e)) (λ k. f (suc k)))

pub get-take : {A : Type 0} (n k : ℕ) (xs : List A) → k < n → slice_get (take n xs) k ≡ slice_get xs k
get-take zero k xs l = absurd (let g : ⊥ = omega (arith, l) in g)
get-take (suc n) k [] l = refl
get-take (suc n) zero (x ∷ xs) l = refl
get-take (suc n) (suc k) (x ∷ xs) l = get-take n k xs (omega (arith, l))

length-take-le : {A : Type 0} (n : ℕ) (xs : List A) → length (take n xs) ≤ n
length-take-le zero xs = omega arith
length-take-le (suc n) [] = omega arith
length-take-le (suc n) (x ∷ xs) = let h = length-take-le n xs in omega (arith, h)

-- what is innermost is so by the rows before alone
pub innermost-front : (rows other : List Row) (k p : ℕ) → ((j : ℕ) → j < k → slice_get other j ≡ slice_get rows j) → IsInnermost rows k p → IsInnermost other k p
innermost-front rows other k p same i = record {
  before = i.before;
  holds = λ q row e got. (let b = i.before in i.holds q row e (sym (same q (omega (arith, b, e))) ∙ got));
  inner = λ j row got l m. i.inner j row (sym (same j l) ∙ got) l m;
}

-- Rows that fit

fits-at : (total : ℕ) (flats : List Flat) (all : List rows.Row) (k : ℕ) (own : Flat) (row : rows.Row) → Fits total flats all → slice_get flats k ≡ Some own → slice_get all k ≡ Some row → (own.node ≡ row.node) × (row.end + own.behind ≡ total)
fits-at total [] all k own row h e f = absurd (none-some own e)
fits-at total (x ∷ flats) [] k own row h e f = absurd (none-some row f)
fits-at total (x ∷ flats) (y ∷ all) zero own row h e f =
    subst (λ v. (v.node ≡ row.node) × (row.end + v.behind ≡ total)) (same_Some x own e)
    (subst (λ (v : rows.Row). (x.node ≡ v.node) × (v.end + x.behind ≡ total)) (same_Some y row f) (h.0, h.1))
fits-at total (x ∷ flats) (y ∷ all) (suc k) own row h e f = fits-at total flats all k own row h.2 e f

fits-length : (total : ℕ) (flats : List Flat) (all : List rows.Row) → Fits total flats all → length flats ≡ length all
fits-length total [] [] h = refl
fits-length total [] (y ∷ all) h = absurd h
fits-length total (x ∷ flats) [] h = absurd h
fits-length total (x ∷ flats) (y ∷ all) h = let n = fits-length total flats all h.2 in omega (arith, n)

pub code-get : (rows : List Row) (i : ℕ) → i < length rows → (row : Row) × (slice_get rows i ≡ Some row)
code-get [] i l = absurd (let f : ⊥ = omega (arith, l) in f)
code-get (row ∷ rows) zero l = (row, refl)
code-get (row ∷ rows) (suc i) l = code-get rows i (omega (arith, l))

-- what a row has once it is seated
at-seat : (s : Store) (text : List ℕ) (old new : List Row) (trees : HtmlForest) → Fits (rows.row_count trees) (map (flat_in s text) old) (rows.rows_of trees) → Seated old new → (k : ℕ) (own : Row) (row : rows.Row) → slice_get new k ≡ Some own → slice_get (rows.rows_of trees) k ≡ Some row → (held_in s text own.held ≡ row.node) × (own.end ≡ row.end)
at-seat s text old new trees fits seated k own row e f =
    let long = seated.long in
    let many = fits-length (rows.row_count trees) (map (flat_in s text) old) (rows.rows_of trees) fits in
    let mapped = length-map old (flat_in s text) in
    let all = row_numbers trees in
    let within = slice_get_within new k own e in
    let first = code-get old k (omega (arith, within, long)) in
    let same = seated.same k first.0 own first.1 e in
    let flat-got : slice_get (map (flat_in s text) old) k ≡ Some (flat_in s text first.0) = slice_get-map (flat_in s text) old k ∙ ap (option_map (flat_in s text)) first.1 in
    let fit = fits-at (rows.row_count trees) (map (flat_in s text) old) (rows.rows_of trees) k (flat_in s text first.0) row fits flat-got f in
    let behind = same.1 in
    let total = fit.1 in
    (ap (held_in s text) same.0 ∙ fit.0, omega (arith, behind, total, many, mapped, all))

parent-cases : (n : ℕ) → ((n ≡ 0) × (parent_of n ≡ None)) ⊎ ((p : ℕ) × (n ≡ suc p) × (parent_of n ≡ Some p))
parent-cases zero = inl (refl, refl)
parent-cases (suc p) = inr (p, refl, refl)

same-some : (p q : ℕ) → p ≡ q → Some p ≡ Some q
same-some p q e = ap Some e

option-cases : (o : Option ℕ) → (o ≡ None) ⊎ ((p : ℕ) × (o ≡ Some p))
option-cases None = inl refl
option-cases (Some p) = inr (p, refl)

-- the parent that was found is the one of the trees
parent-seat : (s : Store) (text : List ℕ) (old new : List Row) (trees : HtmlForest) → Fits (rows.row_count trees) (map (flat_in s text) old) (rows.rows_of trees) → Seated old new → (k : ℕ) (own : Row) (row : rows.Row) → slice_get new k ≡ Some own → slice_get (rows.rows_of trees) k ≡ Some row → parent_of own.parent ≡ row.parent
parent-seat s text old new trees fits seated k own row e f =
    let all = rows.rows_of trees in
    let i = seated.chained k own e in
    let many = fits-length (rows.row_count trees) (map (flat_in s text) old) all fits in
    let mapped = length-map old (flat_in s text) in
    let long = seated.long in
    let in-new = slice_get_within new k own e in
    -- a row of the trees that has this one below it is found
    let found : (p : ℕ) → row.parent ≡ Some p → p < own.parent = λ p is. (
    let range = parent_holds trees k row p f is in
    let first = range.2 in
    let ends = range.3 in
    let got = code-get new p (omega (arith, first, in-new)) in
    let same = (at-seat s text old new trees fits seated p got.0 range.0 got.1 range.1).1 in
    i.inner p got.0 got.1 first (omega (arith, ends, same))) in
    elim (parent-cases own.parent) as (λ _. parent_of own.parent ≡ row.parent) [
      | inl none ↦ elim (option-cases row.parent) as (λ _. parent_of own.parent ≡ row.parent) [
        | inl is ↦ none.1 ∙ sym is
        | inr some ↦ (let l = found some.0 some.1 in let z = none.0 in absurd (let g : ⊥ = omega (arith, l, z) in g))
      ]
      | inr up ↦ (
          let b = i.before in
          let one = up.1 in
          let below : up.0 < k = omega (arith, b, one) in
          let got = code-get new up.0 (omega (arith, below, in-new)) in
          let also = get-some all up.0 (omega (arith, below, in-new, long, mapped, many)) in
          let same = (at-seat s text old new trees fits seated up.0 got.0 also.0 got.1 also.1).1 in
          let ends = i.holds up.0 got.0 up.1 got.1 in
          let inner = parent_innermost trees up.0 k row f (also.0, also.1, below, omega (arith, ends, same)) in
          let less = found inner.0 inner.1 in
          let more = inner.2 in
          let equal : up.0 ≡ inner.0 = omega (arith, less, more, one) in
          up.2 ∙ (same-some up.0 inner.0 equal ∙ sym inner.1))
    ]

pub seated_rows : (s : Store) (text : List ℕ) (old new : List Row) (trees : HtmlForest) → Fits (rows.row_count trees) (map (flat_in s text) old) (rows.rows_of trees) → Seated old new → map (row_in s text) new ≡ rows.rows_of trees
seated_rows s text old new trees fits seated =
    let all = rows.rows_of trees in
    let long = seated.long in
    let many = fits-length (rows.row_count trees) (map (flat_in s text) old) all fits in
    let mapped = length-map old (flat_in s text) in
    let turned = length-map new (row_in s text) in
    same-gets (map (row_in s text) new) all (omega (arith, long, many, mapped, turned))
    (λ k x y e f. (
    let within = slice_get_within (map (row_in s text) new) k x e in
    let own = code-get new k (omega (arith, within, turned)) in
    let is : row_in s text own.0 ≡ x = same_Some (row_in s text own.0) x (sym (slice_get-map (row_in s text) new k ∙ ap (option_map (row_in s text)) own.1) ∙ e) in
    let same = at-seat s text old new trees fits seated k own.0 y own.1 f in
    let up = parent-seat s text old new trees fits seated k own.0 y own.1 f in
    sym is ∙ same-row (held_in s text own.0.held) y.node (parent_of own.0.parent) y.parent own.0.end y.end same.0 up same.1))
  where
    same-row : (a b : rows.Node) (p q : Option ℕ) (m n : ℕ) → a ≡ b → p ≡ q → m ≡ n → (let r : rows.Row = record { node = a; parent = p; end = m } in r) ≡ (let r : rows.Row = record { node = b; parent = q; end = n } in r)
    same-row a b p q m n x y z =
        ap (λ v. let r : rows.Row = record { node = v; parent = p; end = m } in r) x
        ∙ (ap (λ v. let r : rows.Row = record { node = b; parent = v; end = m } in r) y
        ∙ ap (λ v. let r : rows.Row = record { node = b; parent = q; end = v } in r) z)

-- Filling them in

get-set : {A : Type 0} (xs : List A) (n : ℕ) (x : A) → n < length xs → slice_get (slice_set xs n x) n ≡ Some x
get-set [] n x l = absurd (let f : ⊥ = omega (arith, l) in f)
get-set (y ∷ xs) zero x l = refl
get-set (y ∷ xs) (suc n) x l = get-set xs n x (omega (arith, l))

get-others : {A : Type 0} (xs : List A) (n k : ℕ) (x : A) → (k ≡ n → ⊥) → slice_get (slice_set xs n x) k ≡ slice_get xs k
get-others [] n k x other = refl
get-others (y ∷ xs) zero zero x other = absurd (other refl)
get-others (y ∷ xs) zero (suc k) x other = refl
get-others (y ∷ xs) (suc n) zero x other = refl
get-others (y ∷ xs) (suc n) (suc k) x other = get-others xs n k x (λ e. other (ap suc e))

pub all-get : {A : Type 0} (test : A → Bool) (xs : List A) (n : ℕ) (x : A) → IsTrue (list_all test xs) → slice_get xs n ≡ Some x → IsTrue (test x)
all-get test [] n x h e = absurd (none-some x e)
all-get test (y ∷ xs) zero x h e = subst (λ v. IsTrue (test v)) (same_Some y x e) (and_parts (test y) (list_all test xs) h).0
all-get test (y ∷ xs) (suc n) x h e = all-get test xs n x (and_parts (test y) (list_all test xs) h).1 e

pub end-fits : (initial all : List Row) (n : ℕ) (d : Row) → IsTrue (list_all (λ row. nat_le row.end (length initial)) initial) → n < length all → slice_get all n ≡ slice_get initial n → (get_or all n d).end ≤ length initial
end-fits initial all n d h l same =
    leb-true (get_or all n d).end (length initial)
    (all-get (λ row. nat_le row.end (length initial)) initial n (get_or all n d) h (sym same ∙ slice_get-get_or all n d l))

abbrev pub Done : List Row → List Row → ℕ → Type 0
Done initial all n = (k : ℕ) (row own : Row) → k < n → slice_get initial k ≡ Some row → slice_get all k ≡ Some own → (own.held ≡ row.held) × (own.end + row.end ≡ length initial)

abbrev pub Left : List Row → List Row → ℕ → Type 0
Left initial all n = (k : ℕ) → n ≤ k → slice_get all k ≡ slice_get initial k

abbrev pub Seats : List Row → ℕ → Type 0
Seats all n = (k : ℕ) (row : Row) → k < n → slice_get all k ≡ Some row → IsInnermost all k row.parent

pub seat-step : (initial all : List Row) (n : ℕ) (d own : Row) → Done initial all n → Left initial all n → Seats all n → n < length all → own.held ≡ (get_or all n d).held → own.end + (get_or all n d).end ≡ length initial → IsInnermost (take n all) n own.parent → Done initial (slice_set all n own) (n + 1) × Left initial (slice_set all n own) (n + 1) × Seats (slice_set all n own) (n + 1)
seat-step initial all n d own done left seats l held end inner =
    let new = slice_set all n own in
    let was : slice_get initial n ≡ Some (get_or all n d) = sym (left n (omega arith)) ∙ slice_get-get_or all n d l in
    let is = get-set all n own l in
    let front : (j : ℕ) → j < n → slice_get new j ≡ slice_get all j = λ j m. get-others all n j own (λ e. (let f : ⊥ = omega (arith, m, e) in f)) in (
      λ k row now m e f. elim (cases_lt k n) as (λ _. (now.held ≡ row.held) × (now.end + row.end ≡ length initial)) [
        | inl o ↦ done k row now o e (sym (front k o) ∙ f)
        | inr o ↦ (
            let at : k ≡ n = omega (arith, m, o) in
            let a : get_or all n d ≡ row = same_Some (get_or all n d) row (sym was ∙ (ap (slice_get initial) (sym at) ∙ e)) in
            let b : own ≡ now = same_Some own now (sym is ∙ (ap (slice_get new) (sym at) ∙ f)) in
            subst (λ v. (v.held ≡ row.held) × (v.end + row.end ≡ length initial)) b
            (subst (λ v. (own.held ≡ v.held) × (own.end + v.end ≡ length initial)) a (held, end)))
      ],
      λ k m. get-others all n k own (λ e. (let f : ⊥ = omega (arith, m, e) in f)) ∙ left k (omega (arith, m)),
      λ k row m f. elim (cases_lt k n) as (λ _. IsInnermost new k row.parent) [
        | inl o ↦ innermost-front all new k row.parent (λ j p. front j (omega (arith, o, p))) (seats k row o (sym (front k o) ∙ f))
        | inr o ↦ (
            let at : n ≡ k = omega (arith, m, o) in
            let b : own ≡ row = same_Some own row (sym is ∙ (ap (slice_get new) at ∙ f)) in
            subst (λ v. IsInnermost new v row.parent) at
            (subst (λ v. IsInnermost new n v.parent) b
            (innermost-front (take n all) new n own.parent (λ j p. front j p ∙ sym (get-take n j all p)) inner)))
      ],
    )

pub seat-done : (initial all : List Row) (n : ℕ) → length all ≡ length initial → length all ≤ n → Done initial all n → Seats all n → Seated initial all
seat-done initial all n long past done seats = record {
  long = long;
  same = λ k row own e f. (let within = slice_get_within all k own f in done k row own (omega (arith, within, past)) e f);
  chained = λ k row f. (let within = slice_get_within all k row f in seats k row (omega (arith, within, past)) f);
}

pub inner-front : (all : List Row) (n p : ℕ) → n < length all → IsInnermost (take n all) (length (take n all)) p → IsInnermost (take n all) n p
inner-front all n p l inner = subst (λ v. IsInnermost (take n all) v p) (take-long n all l) inner
  where
    take-long : {A : Type 0} (n : ℕ) (xs : List A) → n < length xs → length (take n xs) ≡ n
    take-long zero xs l = refl
    take-long (suc n) [] l = absurd (let f : ⊥ = omega (arith, l) in f)
    take-long (suc n) (x ∷ xs) l = let h = take-long n xs (omega (arith, l)) in omega (arith, h)
