-- A step of a walk over rows.
use Rattle.std.proofs.Common.{Bool, List, Option, Some, [], ap, ap₂, append_assoc, arith, false, if◌then◌else◌, inl, inr, length, nat_le, nat_lt, refl, suc, sym, true, zero, ℕ, ◌+◌, ◌-◌, ◌++◌, ◌<◌, ◌∙◌, ◌≡◌, ◌≤◌, ◌∷◌}
use Rattle.std.proofs.lemmas.Bool.{cases_Bool, le-leb, le-ltb, lt-leb, lt-ltb, ltb-false, ltb-true}
use Rattle.std.specs.Option.{option_and_then, option_map, unwrap_or}
use Rattle.std.specs.Prelude.{max, slice_get}
use Rattle.tl_safe_fit.specs.declared.levels.Level.{Level}
use Rattle.tl_tree.specs.Asked.{name_of, node_at}
use Rattle.tl_tree.specs.Rows.{Row}
use Rattle.tl_tree_safe.specs.Lists.{ListedWords}
use Rattle.tl_tree_safe.specs.Inner.Walk.{Spot, behind_node, behind_row, end_or_none, end_written, ended, ends_written, is_passed_at, is_passed_node, name_end, next_by, next_row, node_written, outside, row_written, walked_from, walked_up_to}
use Rattle.tl_tree_safe.specs.declared.writer.Open.{Open}

when-true : (b : Bool) (x y : List ℕ) → b ≡ true → (elim b as (λ _. List ℕ) [ true ↦ x | false ↦ y ]) ≡ x
when-true true x y e = refl
when-true false x y e = cc

when-false : (b : Bool) (x y : List ℕ) → b ≡ false → (elim b as (λ _. List ℕ) [ true ↦ x | false ↦ y ]) ≡ y
when-false true x y e = cc
when-false false x y e = refl

pub if-true : {A : Type 0} (b : Bool) (x y : A) → b ≡ true → (if b then x else y) ≡ x
if-true true x y e = refl
if-true false x y e = cc

pub if-false : {A : Type 0} (b : Bool) (x y : A) → b ≡ false → (if b then x else y) ≡ y
if-false true x y e = cc
if-false false x y e = refl

-- Steps

further : (v : Bool) (n e : ℕ) → n < (if v then max (n + 1) e else n + 1)
further true n e = omega arith
further false n e = omega arith

pub next_further : (p : ListedWords) (R : List Row) (spot : Spot) (n : ℕ) → n < next_row p R spot n
next_further p R spot n =
    further (is_passed_at p R spot n) n (end_or_none R n)

-- how many rows may be walked over makes no difference, where all may be
enough : (p : ListedWords) (R : List Row) (f g n : ℕ) (spot : Spot) → length R ≤ n + f → length R ≤ n + g → walked_up_to p R f n spot ≡ walked_up_to p R g n spot
enough p R zero zero n spot h k = refl
enough p R zero (suc g) n spot h k = sym (when-false (nat_lt n (length R)) _ _ (le-ltb n (length R) (omega arith)))
enough p R (suc f) zero n spot h k = when-false (nat_lt n (length R)) _ _ (le-ltb n (length R) (omega arith))
enough p R (suc f) (suc g) n spot h k = elim (cases_Bool (nat_lt n (length R))) [
  | inl less ↦
      let here = ended n spot in
      let next = next_row p R here n in
      let l = next_further p R here n in
      when-true (nat_lt n (length R)) _ _ less
      ∙ ap (λ x. ends_written R n spot.opens ++ (row_written p R here n ++ x)) (enough p R f g next (behind_row p R here n) (omega (arith, l)) (omega (arith, l)))
      ∙ sym (when-true (nat_lt n (length R)) _ _ less)
  | inr more ↦ when-false (nat_lt n (length R)) _ _ more ∙ sym (when-false (nat_lt n (length R)) _ _ more)
]

pub walk_more : (p : ListedWords) (R : List Row) (n : ℕ) (spot : Spot) → n < length R →
    walked_from p R n spot
    ≡ ends_written R n spot.opens ++ (row_written p R (ended n spot) n ++ walked_from p R (next_row p R (ended n spot) n) (behind_row p R (ended n spot) n))
walk_more p R n spot h =
    let here = ended n spot in
    let next = next_row p R here n in
    let l = next_further p R here n in
    let most : length R - n ≡ suc (length R - n - 1) = omega arith in
    ap (λ f. walked_up_to p R f n spot) most
    ∙ when-true (nat_lt n (length R)) _ _ (lt-ltb n (length R) h)
    ∙ ap (λ x. ends_written R n spot.opens ++ (row_written p R here n ++ x)) (enough p R (length R - n - 1) (length R - next) next (behind_row p R here n) (omega (arith, l)) (omega (arith, l)))

pub walk_none : (p : ListedWords) (R : List Row) (n : ℕ) (spot : Spot) → length R ≤ n → walked_from p R n spot ≡ ends_written R n spot.opens
walk_none p R n spot h =
    let none : length R - n ≡ 0 = omega arith in
    ap (λ f. walked_up_to p R f n spot) none

-- Open elements

abbrev pub StaysOpen : ℕ → List Open → Type 0
StaysOpen to [] = Unit {0}
StaysOpen to (o ∷ opens) = to ≤ o.end

-- none ends before a row
pub none_ends : (R : List Row) (n to : ℕ) (opens : List Open) → StaysOpen to opens → n < to → ends_written R n opens ≡ []
none_ends R n to [] h l = refl
none_ends R n to (o ∷ opens) h l = if-false (nat_le o.end n) _ _ (lt-leb o.end n (omega arith))

pub none_left : (n to : ℕ) (level : Level) (fresh : Bool) (opens : List Open) → StaysOpen to opens → n < to →
    outside n level fresh opens ≡ record { level = level; fresh = fresh; opens = opens }
none_left n to level fresh [] h l = refl
none_left n to level fresh (o ∷ opens) h l = if-false (nat_le o.end n) _ _ (lt-leb o.end n (omega arith))

-- the innermost one ends, and then the others
pub one_ends : (p : ListedWords) (R : List Row) (n : ℕ) (level : Level) (fresh : Bool) (o : Open) (opens : List Open) → o.end ≤ n →
    walked_from p R n (record { level = level; fresh = fresh; opens = o ∷ opens })
    ≡ end_written R o.number ++ walked_from p R n (record { level = o.outer; fresh = false; opens = opens })
one_ends p R n level fresh o opens h =
    let outer : Spot = record { level = o.outer; fresh = false; opens = opens } in
    let inner : Spot = record { level = level; fresh = fresh; opens = o ∷ opens } in
    let le = le-leb o.end n h in
    let ends : ends_written R n (o ∷ opens) ≡ end_written R o.number ++ ends_written R n opens = if-true (nat_le o.end n) _ _ le in
    let left : ended n inner ≡ ended n outer = if-true (nat_le o.end n) _ _ le in
    elim (cases_Bool (nat_lt n (length R))) [
      | inl less ↦
          let l = ltb-true n (length R) less in
          walk_more p R n inner l
          ∙ ap₂ (λ (x : List ℕ) (s : Spot). x ++ (row_written p R s n ++ walked_from p R (next_row p R s n) (behind_row p R s n))) ends left
          ∙ append_assoc (end_written R o.number) (ends_written R n opens) _
          ∙ ap (λ x. end_written R o.number ++ x) (sym (walk_more p R n outer l))
      | inr more ↦
          let l = ltb-false n (length R) more in
          walk_none p R n inner l ∙ ends ∙ ap (λ x. end_written R o.number ++ x) (sym (walk_none p R n outer l))
    ]

-- A row by its number

pub is_there : (R : List Row) (n : ℕ) (row : Row) → slice_get R n ≡ Some row → n < length R
is_there [] zero row e = cc
is_there [] (suc n) row e = cc
is_there (x ∷ R) zero row e = omega arith
is_there (x ∷ R) (suc n) row e = let more = is_there R n row e in omega (arith, more)

module _ (p : ListedWords) (R : List Row) (n : ℕ) (row : Row) (at : slice_get R n ≡ Some row) where
  node-is : node_at R n ≡ Some row.node
  node-is = ap (option_map (λ (r : Row). r.node)) at

  end-is : end_or_none R n ≡ row.end
  end-is = ap (λ (o : Option Row). unwrap_or (option_map (λ (r : Row). r.end) o) 0) at

  pub written_is : (spot : Spot) → row_written p R spot n ≡ node_written p spot row.node
  written_is spot = ap (λ o. unwrap_or (option_map (node_written p spot) o) []) node-is

  pub behind_is : (spot : Spot) → behind_row p R spot n ≡ behind_node p n row.end spot row.node
  behind_is spot =
      ap₂ (λ e o. unwrap_or (option_map (behind_node p n e spot) o) spot) end-is node-is

  pub next_passed : (spot : Spot) → is_passed_node p spot row.node ≡ true → n < row.end → next_row p R spot n ≡ row.end
  next_passed spot h l =
      if-true _ (max (n + 1) (end_or_none R n)) (n + 1) (ap (λ o. unwrap_or (option_map (is_passed_node p spot) o) false) node-is ∙ h)
      ∙ ap (λ e. max (n + 1) e) end-is
      ∙ larger
    where
      larger : max (n + 1) row.end ≡ row.end
      larger = omega arith

  pub next_entered : (spot : Spot) → is_passed_node p spot row.node ≡ false → next_row p R spot n ≡ n + 1
  next_entered spot h =
      if-false _ (max (n + 1) (end_or_none R n)) (n + 1) (ap (λ o. unwrap_or (option_map (is_passed_node p spot) o) false) node-is ∙ h)

  pub end_of_name : end_written R n ≡ unwrap_or (option_map name_end (name_of row.node)) []
  end_of_name = ap (λ o. unwrap_or (option_map name_end (option_and_then name_of o)) []) node-is

-- What a loop has written

regroup : (o a b w : List ℕ) → o ++ (a ++ (b ++ w)) ≡ ((o ++ a) ++ b) ++ w
regroup o a b w = sym (append_assoc (o ++ a) b w ∙ append_assoc o a (b ++ w))

module _ (p : ListedWords) (R : List Row) (n : ℕ) (s : Spot) (all o : List ℕ) (so_far : all ≡ o ++ walked_from p R n s) where
  pub one_walked : (a b : List ℕ) (t u : Spot) (passed : Bool) (next : ℕ) → n < length R →
      a ≡ o ++ ends_written R n s.opens → t ≡ ended n s → b ≡ a ++ row_written p R t n → u ≡ behind_row p R t n → passed ≡ is_passed_at p R t n → next ≡ next_by R n passed →
      all ≡ b ++ walked_from p R next u
  one_walked a b t u passed next l ends left written behind is to =
      let here = ended n s in
      so_far
      ∙ ap (λ x. o ++ x) (walk_more p R n s l)
      ∙ regroup o (ends_written R n s.opens) (row_written p R here n) (walked_from p R (next_row p R here n) (behind_row p R here n))
      ∙ ap (λ x. (x ++ row_written p R here n) ++ walked_from p R (next_row p R here n) (behind_row p R here n)) (sym ends)
      ∙ ap (λ (v : Spot). (a ++ row_written p R v n) ++ walked_from p R (next_row p R v n) (behind_row p R v n)) (sym left)
      ∙ ap (λ x. x ++ walked_from p R (next_row p R t n) (behind_row p R t n)) (sym written)
      ∙ ap₂ (λ (k : ℕ) (v : Spot). b ++ walked_from p R k v) (ap (next_by R n) (sym is) ∙ sym to) (sym behind)

  pub all_walked : length R ≤ n → o ++ ends_written R n s.opens ≡ all
  all_walked l = ap (λ x. o ++ x) (sym (walk_none p R n s l)) ∙ sym so_far
