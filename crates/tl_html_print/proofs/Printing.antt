-- A step of a print over rows, and what is read of one row.
use Rattle.std.proofs.Common.{Bool, List, None, Option, Some, [], add-zero, ap, ap₂, arith, drop, false, if◌then◌else◌, inl, inr, length, nat_eq, nat_le, nat_lt, refl, suc, sym, true, zero, ℕ, ◌&&◌, ◌+◌, ◌-◌, ◌++◌, ◌<◌, ◌∙◌, ◌≡◌, ◌≤◌, ◌∷◌}
use Rattle.std.proofs.lemmas.Bool.{cases_Bool, eq-eqb, le-leb, le-ltb, lt-leb, lt-ltb, ne_eqb}
use Rattle.std.proofs.lemmas.Option.{same_Some}
use Rattle.std.specs.Option.{option_and_then, option_map, unwrap_or}
use Rattle.std.specs.Prelude.{max, slice_get}
use Rattle.tl_dom_spec.specs.Lawful.{is_void}
use Rattle.tl_tree.specs.Below.{ends_at}
use Rattle.tl_html_print.specs.Inner.Printed.{behind, closed, is_void_at, opened, opened_at, parent_tag, printed_from, printed_up_to, tag_of, tag_at, upwards}
use Rattle.tl_html_print.specs.Serialized.{end_tag}
use Rattle.tl_tree.specs.Asked.{ancestors_from, ancestors_up_from, end_at, node_at, parent_at}
use Rattle.tl_tree.specs.Rows.{Row}

when-true : (b : Bool) (x : List ℕ) → b ≡ true → (elim b as (λ _. List ℕ) [ true ↦ x | false ↦ [] ]) ≡ x
when-true true x e = refl
when-true false x e = cc

when-false : (b : Bool) (x : List ℕ) → b ≡ false → (elim b as (λ _. List ℕ) [ true ↦ x | false ↦ [] ]) ≡ []
when-false true x e = cc
when-false false x e = refl

pub if-true : {A : Type 0} (b : Bool) (x y : A) → b ≡ true → (if b then x else y) ≡ x
if-true true x y e = refl
if-true false x y e = cc

pub if-false : {A : Type 0} (b : Bool) (x y : A) → b ≡ false → (if b then x else y) ≡ y
if-false true x y e = cc
if-false false x y e = refl

-- Steps

further : (v : Bool) (n e : ℕ) → n < (if v then max (n + 1) e else n + 1)
further true n e = omega arith
further false n e = omega arith

pub behind-further : (R : List Row) (n : ℕ) → n < behind R n
behind-further R n = further (is_void_at R n) n (unwrap_or (end_at R n) 0)

-- how many rows may be printed makes no difference, where all may be
enough : (s : Bool) (R : List Row) (first end f g n : ℕ) → end ≤ n + f → end ≤ n + g → printed_up_to s R first end f n ≡ printed_up_to s R first end g n
enough s R first end zero zero n h k = refl
enough s R first end zero (suc g) n h k = sym (when-false (nat_lt n end) _ (le-ltb n end (omega arith)))
enough s R first end (suc f) zero n h k = when-false (nat_lt n end) _ (le-ltb n end (omega arith))
enough s R first end (suc f) (suc g) n h k = elim (cases_Bool (nat_lt n end)) [
  | inl less ↦
      let l = behind-further R n in
      when-true (nat_lt n end) _ less
      ∙ ap (λ x. opened_at s R n ++ (closed R first (behind R n) (upwards R n) ++ x)) (enough s R first end f g (behind R n) (omega (arith, l)) (omega (arith, l)))
      ∙ sym (when-true (nat_lt n end) _ less)
  | inr more ↦ when-false (nat_lt n end) _ more ∙ sym (when-false (nat_lt n end) _ more)
]

pub print_more : (s : Bool) (R : List Row) (first end n : ℕ) → n < end →
    printed_from s R first end n ≡ opened_at s R n ++ (closed R first (behind R n) (upwards R n) ++ printed_from s R first end (behind R n))
print_more s R first end n h =
    let l = behind-further R n in
    let most : end - n ≡ suc (end - n - 1) = omega arith in
    ap (λ f. printed_up_to s R first end f n) most
    ∙ when-true (nat_lt n end) _ (lt-ltb n end h)
    ∙ ap (λ x. opened_at s R n ++ (closed R first (behind R n) (upwards R n) ++ x)) (enough s R first end (end - n - 1) (end - behind R n) (behind R n) (omega (arith, l)) (omega (arith, l)))

pub print_none : (s : Bool) (R : List Row) (first end n : ℕ) → end ≤ n → printed_from s R first end n ≡ []
print_none s R first end n h =
    let none : end - n ≡ 0 = omega arith in
    ap (λ f. printed_up_to s R first end f n) none

-- A row by its number

row-first : (row x : Row) (R rest : List Row) → x ∷ R ≡ row ∷ rest → (Some x ≡ Some row) × (R ≡ rest)
row-first row x R rest e = (cc, cc)

pub row_here : (R : List Row) (n : ℕ) (row : Row) (rest : List Row) → drop n R ≡ row ∷ rest → (slice_get R n ≡ Some row) × (drop (suc n) R ≡ rest)
row_here [] zero row rest e = cc
row_here [] (suc n) row rest e = cc
row_here (x ∷ R) zero row rest e = row-first row x R rest e
row_here (x ∷ R) (suc n) row rest e = row_here R n row rest e

pub rows_behind : (xs ys R : List Row) (n : ℕ) → drop n R ≡ xs ++ ys → drop (n + length xs) R ≡ ys
rows_behind [] ys R n e = ap (λ m. drop m R) (add-zero n) ∙ e
rows_behind (x ∷ xs) ys R n e =
    let place : n + suc (length xs) ≡ suc n + length xs = omega arith in
    ap (λ m. drop m R) place ∙ rows_behind xs ys R (suc n) (row_here R n x (xs ++ ys) e).1

-- each row stands in one before it
abbrev pub AreUp : List Row → Type 0
AreUp R = (n : ℕ) (row : Row) (p : ℕ) → slice_get R n ≡ Some row → row.parent ≡ Some p → p < n

row-cases : (o : Option Row) (p : ℕ) → option_and_then (λ (row : Row). row.parent) o ≡ Some p → (row : Row) × (o ≡ Some row) × (row.parent ≡ Some p)
row-cases None p e = cc
row-cases (Some row) p e = (row, refl, e)

up-before : (R : List Row) → AreUp R → (n p : ℕ) → parent_at R n ≡ Some p → p < n
up-before R up n p e =
    let at = row-cases (slice_get R n) p e in
    up n at.0 p at.1 at.2

abbrev Before : Option ℕ → ℕ → Type 0
Before o f = (p : ℕ) → o ≡ Some p → p < f

-- how many ancestors there may be makes no difference, where all may be
anc-enough : (R : List Row) → AreUp R → (f g : ℕ) (o : Option ℕ) → Before o f → Before o g → ancestors_from R f o ≡ ancestors_from R g o
anc-enough R up zero zero o h k = refl
anc-enough R up zero (suc g) None h k = refl
anc-enough R up zero (suc g) (Some p) h k = absurd (let l = h p refl in omega (arith, l))
anc-enough R up (suc f) zero None h k = refl
anc-enough R up (suc f) zero (Some p) h k = absurd (let l = k p refl in omega (arith, l))
anc-enough R up (suc f) (suc g) None h k = refl
anc-enough R up (suc f) (suc g) (Some p) h k =
    let l = h p refl in
    let m = k p refl in
    ap (λ x. p ∷ x)
    (anc-enough R up f g (parent_at R p)
    (λ q e. let less = up-before R up p q e in omega (arith, less, l))
    (λ q e. let less = up-before R up p q e in omega (arith, less, m)))

anc-up : (R : List Row) → AreUp R → (n : ℕ) (o : Option ℕ) → Before o n → ancestors_from R n o ≡ ancestors_up_from R o
anc-up R up zero None h = refl
anc-up R up (suc n) None h = refl
anc-up R up n (Some p) h =
    let l = h p refl in
    anc-enough R up n (suc p) (Some p) h (λ q e. let same = same_Some p q e in omega (arith, same))

pub own_ancestors : (R : List Row) → AreUp R → (n : ℕ) → ancestors_up_from R (Some n) ≡ upwards R n
own_ancestors R up n = ap (λ x. n ∷ x) (anc-up R up n (parent_at R n) (up-before R up n))

-- What is read of a row

module _ (R : List Row) (n : ℕ) (row : Row) (at : slice_get R n ≡ Some row) where
  node-is : node_at R n ≡ Some row.node
  node-is = ap (option_map (λ (r : Row). r.node)) at

  pub parent_is : parent_at R n ≡ row.parent
  parent_is = ap (option_and_then (λ (r : Row). r.parent)) at

  end-is : end_at R n ≡ Some row.end
  end-is = ap (option_map (λ (r : Row). r.end)) at

  pub tag_is : tag_at R n ≡ tag_of row.node
  tag_is = ap (option_and_then tag_of) node-is

  pub opened_is : (s : Bool) → opened_at s R n ≡ opened s (parent_tag R row.parent) row.node
  opened_is s = ap₂ (λ p o. unwrap_or (option_map (opened s (parent_tag R p)) o) []) parent_is node-is

  pub upwards_is : upwards R n ≡ n ∷ ancestors_up_from R row.parent
  upwards_is = ap (λ p. n ∷ ancestors_up_from R p) parent_is

  void-is : is_void_at R n ≡ unwrap_or (option_map is_void (tag_of row.node)) false
  void-is = ap (λ t. unwrap_or (option_map is_void t) false) tag_is

  pub behind_void : unwrap_or (option_map is_void (tag_of row.node)) false ≡ true → n < row.end → behind R n ≡ row.end
  behind_void v l =
      if-true (is_void_at R n) (max (n + 1) (unwrap_or (end_at R n) 0)) (n + 1) (void-is ∙ v)
      ∙ ap (λ o. max (n + 1) (unwrap_or o 0)) end-is
      ∙ larger
    where
      larger : max (n + 1) row.end ≡ row.end
      larger = omega arith

  pub behind_other : unwrap_or (option_map is_void (tag_of row.node)) false ≡ false → behind R n ≡ n + 1
  behind_other v = if-false (is_void_at R n) (max (n + 1) (unwrap_or (end_at R n) 0)) (n + 1) (void-is ∙ v)

  ends-is : (next : ℕ) → ends_at R n next ≡ nat_eq row.end next
  ends-is next = ap (λ o. unwrap_or (option_map (λ e. nat_eq e next) o) false) end-is

  -- its end tag is written where it ends
  pub closed_here : (first next : ℕ) (outer : List ℕ) → first ≤ n → row.end ≡ next →
      closed R first next (n ∷ outer) ≡ unwrap_or (option_map end_tag (tag_of row.node)) [] ++ closed R first next outer
  closed_here first next outer l e =
      if-true (nat_le first n && ends_at R n next) _ [] (ap₂ (λ a b. a && b) (le-leb first n l) (ends-is next ∙ eq-eqb row.end next e))
      ∙ ap (λ t. unwrap_or (option_map end_tag t) [] ++ closed R first next outer) tag_is

  both-false : (a : Bool) → a && false ≡ false
  both-false true = refl
  both-false false = refl

  -- and none before
  pub closed_not : (first next : ℕ) (outer : List ℕ) → (row.end ≡ next → ⊥) → closed R first next (n ∷ outer) ≡ []
  closed_not first next outer not_end =
      if-false (nat_le first n && ends_at R n next) _ []
      (ap (λ b. nat_le first n && b) (ends-is next ∙ ne_eqb row.end next not_end) ∙ both-false (nat_le first n))

-- none is written of those before the first one
pub closed_before : (R : List Row) (first next n : ℕ) (outer : List ℕ) → n < first → closed R first next (n ∷ outer) ≡ []
closed_before R first next n outer l =
    if-false (nat_le first n && ends_at R n next) _ [] (ap (λ b. b && ends_at R n next) (lt-leb first n l))

pub closed_above : (R : List Row) (first next : ℕ) (parent : Option ℕ) → ((p : ℕ) → parent ≡ Some p → p < first) → closed R first next (ancestors_up_from R parent) ≡ []
closed_above R first next None h = refl
closed_above R first next (Some p) h = closed_before R first next p _ (h p refl)
