-- The table of the names: each has its number in its slot.
use Rattle.std.proofs.Common.{◌≡◌, ◌<◌, ◌≤◌, ◌+◌, ◌∙◌, ◌++◌, ◌∷◌, suc, zero, length-append, ℕ, true, false, List, [], inl, inr, length, get_or, nat_eq, refl, ap, sym, subst, arith, true≢false}
use Rattle.std.specs.Prelude.{None, Option, Some, map, replicate, slice_get}
use Rattle.std.proofs.lemmas.Bool.{cases_Bool, eq-eqb, eqb-true, false_from_ne_true}
use Rattle.std.proofs.lemmas.List.{get_or-map, get_or_past, length-map, length-replicate}
use Rattle.std.proofs.lemmas.Option.{slice_get-get_or, slice_get_past, slice_get_read}
use Rattle.std.proofs.lemmas.Slice.Eq.{bytes_eq-Decides}
use Rattle.std.specs.Borrow.{Bor}
use Rattle.std.specs.List.{HoldsAt, list_all}
use Rattle.std.specs.Option.{IfSome, MatchOption, option_copied}
use Rattle.std.specs.Str.{bytes_eq}
use Rattle.tl_names.specs.declared.element_name.ElementName.{ElementName}
use Rattle.tl_names.specs.declared.element_tables.TheConstants.{NAMES, SLOTS}
use Rattle.tl_names.specs.ElementNames.{bytes_of, element_names, name_of, number_of, place_in, slot_of, text_of}
use Rattle.tl_names.specs.Elements.{is_among}
use Rattle.tl_names.proofs.Numbers.{are_numbered, got_among, listed, not_placed, numbered, placed}

-- what a slice answers at a place
pub looked_up : {X : Type 0} (xs : List X) (i : ℕ) (r : Option (Bor X)) → IfSome r (λ x. x.now ≡ get_or xs i x.now) →
    MatchOption r (length xs ≤ i) (λ x. (i < length xs) × HoldsAt (λ y. x.now ≡ y) xs i) → option_copied r ≡ slice_get xs i
looked_up xs i None got within = sym (slice_get_past xs i within)
looked_up xs i (Some x) got within = sym (slice_get_read xs (length xs) i x.now refl within.0 got)

pub text_in_names : (name : ElementName) (r : Option (Bor (List ℕ))) → option_copied r ≡ slice_get (map (λ own. own.now) NAMES) name.number → option_copied r ≡ text_of name
unfolding element_names text_of
text_in_names name r e = e

abbrev pub number_by_slot : List ℕ → ℕ
number_by_slot n = get_or SLOTS (slot_of n) 0

-- by computing
each_numbered : are_numbered number_by_slot 0 element_names ≡ true
unfolding element_names
each_numbered = refl

pub names_length : length element_names ≡ 159
unfolding element_names
names_length = refl

nothing_not_among : is_among element_names [] ≡ false
unfolding element_names
nothing_not_among = refl

-- what a slot has for a name is its number
by_slot : (n : List ℕ) → is_among element_names n ≡ true → number_by_slot n ≡ place_in element_names n
by_slot n m =
    let e : number_by_slot n ≡ 0 + place_in element_names n = numbered number_by_slot 0 element_names n each_numbered m in
    omega (arith, e)

abbrev pub numbered_name : ℕ → ElementName
numbered_name number = record { number = number }

name_of_slot : (n : List ℕ) → is_among element_names n ≡ true → numbered_name (number_by_slot n) ≡ name_of n
unfolding name_of
name_of_slot n m = ap numbered_name (by_slot n m)

pub name_of_other : (n : List ℕ) → is_among element_names n ≡ false → numbered_name 159 ≡ name_of n
unfolding name_of
name_of_other n m = ap numbered_name (sym (not_placed element_names n m ∙ names_length))

text_among : (number : ℕ) (own : List ℕ) → text_of (numbered_name number) ≡ Some own → is_among element_names own ≡ true
unfolding text_of
text_among number own e = got_among element_names number own e

text_by_slot : (n : List ℕ) → is_among element_names n ≡ true → text_of (numbered_name (number_by_slot n)) ≡ Some n
unfolding text_of
text_by_slot n m =
    let two = placed element_names n m in
    ap (slice_get element_names) (by_slot n m)
    ∙ slice_get-get_or element_names (place_in element_names n) [] two.0
    ∙ ap (λ (own : List ℕ). Some own) two.1

-- a name that has the text of its slot's number is that one
pub found : (n own : List ℕ) (number : ℕ) → number ≡ number_by_slot n → Some own ≡ text_of (numbered_name number) → own ≡ n → numbered_name number ≡ name_of n
found n own number e text same =
    let m : is_among element_names own ≡ true = text_among number own (sym text) in
    ap numbered_name e ∙ name_of_slot n (subst (λ (o : List ℕ). is_among element_names o ≡ true) same m)

-- and one that has not is none
pub missed : (n : List ℕ) (number : ℕ) → number ≡ number_by_slot n → (text_of (numbered_name number) ≡ Some n → ⊥) → numbered_name 159 ≡ name_of n
missed n number e other = name_of_other n (false_from_ne_true (is_among element_names n) (λ m. other (ap (λ (k : ℕ). text_of (numbered_name k)) e ∙ text_by_slot n m)))

pub none_is_not_some : (n : List ℕ) → ◌≡◌ {A = Option (List ℕ)} None (Some n) → ⊥
none_is_not_some n e = cc

pub empty : (n : List ℕ) → n ≡ [] → numbered_name 159 ≡ name_of n
empty n e = name_of_other n (ap (is_among element_names) e ∙ nothing_not_among)

-- A name is that of its number, or none of the names

pub bytes_of_name : (n : List ℕ) → is_among element_names n ≡ true → bytes_of (name_of n) ≡ n
unfolding bytes_of name_of
bytes_of_name n m = (placed element_names n m).1

pub bytes_of_other : (n : List ℕ) → is_among element_names n ≡ false → bytes_of (name_of n) ≡ []
unfolding bytes_of name_of
bytes_of_other n m =
    let e : place_in element_names n ≡ length element_names = not_placed element_names n m in
    get_or_past element_names (place_in element_names n) [] (omega (arith, e))

-- what is the same for all that is none of the names is decided by the number of a name
pub by_name : {A : Type 0} (f : List ℕ → A) → ((n : List ℕ) → is_among element_names n ≡ false → f n ≡ f []) → (n : List ℕ) → f (bytes_of (name_of n)) ≡ f n
by_name f outside n = elim (cases_Bool (is_among element_names n)) [
  | inl m ↦ ap f (bytes_of_name n m)
  | inr m ↦ ap f (bytes_of_other n m) ∙ sym (outside n m)
]

-- what is none of the names is not this one of them, and not among these
pub not_one : (x n : List ℕ) → is_among element_names x ≡ true → is_among element_names n ≡ false → bytes_eq x n ≡ false
not_one x n m o =
    false_from_ne_true (bytes_eq x n) (λ y.
    true≢false (sym (subst (λ (w : List ℕ). is_among element_names w ≡ true) ((bytes_eq-Decides x n).0 y) m) ∙ o))

pub not_any : (members : List (List ℕ)) (n : List ℕ) → list_all (is_among element_names) members ≡ true → is_among element_names n ≡ false → is_among members n ≡ false
not_any members n all o = false_from_ne_true (is_among members n) (λ m. true≢false (sym (listed members element_names n all m) ∙ o))

-- names with one number are the same, where it is that of a name
same_place : (x n : List ℕ) → is_among element_names x ≡ true → (name_of n).number ≡ (name_of x).number → x ≡ n
unfolding name_of
same_place x n m e =
    let one = placed element_names x m in
    elim (cases_Bool (is_among element_names n)) [
      | inl k ↦ sym one.1 ∙ ap (λ (i : ℕ). get_or element_names i []) (sym e) ∙ (placed element_names n k).1
      | inr k ↦
          let past : place_in element_names n ≡ length element_names = not_placed element_names n k in
          absurd (omega (arith, e, past, one.0))
    ]

pub same_number : (x n : List ℕ) → is_among element_names x ≡ true → nat_eq (name_of n).number (name_of x).number ≡ bytes_eq x n
same_number x n m = elim (cases_Bool (bytes_eq x n)) [
  | inl y ↦ eq-eqb (name_of n).number (name_of x).number (ap (λ (o : List ℕ). (name_of o).number) (sym ((bytes_eq-Decides x n).0 y))) ∙ sym y
  | inr o ↦
      false_from_ne_true (nat_eq (name_of n).number (name_of x).number) (λ e.
      true≢false (sym ((bytes_eq-Decides x n).1 (same_place x n m (eqb-true (name_of n).number (name_of x).number e))) ∙ o))
      ∙ sym o
]

number_within : (n : List ℕ) → (name_of n).number ≤ length element_names
unfolding name_of
number_within n = elim (cases_Bool (is_among element_names n)) [
  | inl m ↦
      let h : place_in element_names n < length element_names = (placed element_names n m).0 in
      omega (arith, h)
  | inr o ↦
      let h : place_in element_names n ≡ length element_names = not_placed element_names n o in
      omega (arith, h)
]

-- empty names behind others
padded : (names : List (List ℕ)) (m k : ℕ) → get_or (names ++ replicate m []) k [] ≡ get_or names k []
padded [] zero k = refl
padded [] (suc m) zero = refl
padded [] (suc m) (suc k) = padded [] m k
padded (own ∷ names) m zero = refl
padded (own ∷ names) m (suc k) = padded names m k

-- so does a table with a row for each name, and m > 0 for others: that its rows are right is
-- computed
pub by_row : {G A : Type 0} (view : G → A) (f : List ℕ → A) (rows : List G) (other : G) (m : ℕ) → 0 < m →
    map view rows ≡ map f (element_names ++ replicate m []) →
    ((n : List ℕ) → is_among element_names n ≡ false → f n ≡ f []) →
    (n : List ℕ) → view (get_or rows (number_of (name_of n)) other) ≡ f n
unfolding bytes_of
by_row {G} {A} view f rows other m some e outside n =
    let k : ℕ = (name_of n).number in
    let within : k ≤ length element_names = number_within n in
    let all : length (element_names ++ replicate m []) ≡ length element_names + m =
    length-append element_names (replicate m []) ∙ ap (λ (l : ℕ). length element_names + l) (length-replicate m []) in
    let rows_all : length rows ≡ length (element_names ++ replicate m []) =
    sym (length-map rows view) ∙ ap (λ (xs : List A). length xs) e ∙ length-map (element_names ++ replicate m []) f in
    sym (get_or-map view rows k other (f []) (omega (arith, some, within, all, rows_all)))
    ∙ ap (λ (xs : List A). get_or xs k (f [])) e
    ∙ get_or-map f (element_names ++ replicate m []) k [] (f []) (omega (arith, some, within, all))
    ∙ ap f (padded element_names m k)
    ∙ by_name f outside n
