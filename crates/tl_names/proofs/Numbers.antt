-- Names in a list, and the numbers that a table has of them.
use Rattle.std.proofs.Common.{◌≡◌, ◌<◌, ◌+◌, ◌∙◌, ℕ, Bool, true, false, ◌&&◌, ◌||◌, List, [], suc, ◌∷◌, inl, inr, length, get_or, nat_eq, refl, ap, sym, subst, arith, true≢false, if◌then◌else◌}
use Rattle.std.proofs.lemmas.Bool.{and_parts, cases_Bool, eqb-true}
use Rattle.std.proofs.lemmas.Slice.Eq.{bytes_eq-Decides}
use Rattle.std.specs.List.{list_all, list_any}
use Rattle.std.specs.Prelude.{Some, slice_get}
use Rattle.std.proofs.lemmas.List.Folds.{list_any_at}
use Rattle.std.proofs.lemmas.Option.{get_or_from_slice_get, slice_get_within}
use Rattle.std.specs.Str.{bytes_eq}
use Rattle.tl_names.specs.ElementNames.{place_in}
use Rattle.tl_names.specs.Elements.{is_among}

-- whether the names have the numbers from k on
abbrev pub are_numbered : (List ℕ → ℕ) → ℕ → List (List ℕ) → Bool
are_numbered at k [] = true
are_numbered at k (own ∷ names) = nat_eq (at own) k && are_numbered at (suc k) names

-- the place of the first of more names
first : (own : List ℕ) (names : List (List ℕ)) (n : List ℕ) → bytes_eq n own ≡ true → place_in (own ∷ names) n ≡ 0
first own names n y = ap (λ v. if v then 0 else suc (place_in names n)) y

later : (own : List ℕ) (names : List (List ℕ)) (n : List ℕ) → bytes_eq n own ≡ false → place_in (own ∷ names) n ≡ suc (place_in names n)
later own names n o = ap (λ v. if v then 0 else suc (place_in names n)) o

-- what is among more names, and isn't the first, is among the others
rest : (own : List ℕ) (names : List (List ℕ)) (n : List ℕ) → bytes_eq n own ≡ false → is_among names n ≡ is_among (own ∷ names) n
rest own names n o = sym (ap (λ v. v || list_any (bytes_eq n) names) o)

-- the table has the place of each name
pub numbered : (at : List ℕ → ℕ) (k : ℕ) (names : List (List ℕ)) (n : List ℕ) → are_numbered at k names ≡ true → is_among names n ≡ true → at n ≡ k + place_in names n
numbered at k [] n h m = absurd (true≢false (sym m))
numbered at k (own ∷ names) n h m =
    let two = and_parts (nat_eq (at own) k) (are_numbered at (suc k) names) h in
    elim (cases_Bool (bytes_eq n own)) [
      | inl y ↦
          let e : at n ≡ k = ap at ((bytes_eq-Decides n own).0 y) ∙ eqb-true (at own) k two.0 in
          rw (first own names n y) (omega (arith, e))
      | inr o ↦
          let e : at n ≡ suc k + place_in names n = numbered at (suc k) names n two.1 (rest own names n o ∙ m) in
          rw (later own names n o) (omega (arith, e))
    ]

pub placed : (names : List (List ℕ)) (n : List ℕ) → is_among names n ≡ true → (place_in names n < length names) × (get_or names (place_in names n) [] ≡ n)
placed [] n m = absurd (true≢false (sym m))
placed (own ∷ names) n m = elim (cases_Bool (bytes_eq n own)) [
  | inl y ↦ rw (first own names n y) (omega arith, sym ((bytes_eq-Decides n own).0 y))
  | inr o ↦
      let h : (place_in names n < length names) × (get_or names (place_in names n) [] ≡ n) = placed names n (rest own names n o ∙ m) in
      rw (later own names n o) (omega (arith, h.0), h.1)
]

-- what is no name has the length of the list
pub not_placed : (names : List (List ℕ)) (n : List ℕ) → is_among names n ≡ false → place_in names n ≡ length names
not_placed [] n m = refl
not_placed (own ∷ names) n m = elim (cases_Bool (bytes_eq n own)) [
  | inl y ↦ absurd (true≢false (sym (ap (λ v. v || list_any (bytes_eq n) names) y) ∙ m))
  | inr o ↦ later own names n o ∙ ap (λ v. suc v) (not_placed names n (rest own names n o ∙ m))
]

-- an element of a list is among it
pub got_among : (names : List (List ℕ)) (i : ℕ) (own : List ℕ) → slice_get names i ≡ Some own → is_among names own ≡ true
got_among names i own e =
    let lt : i < length names = slice_get_within names i own e in
    let same : get_or names i [] ≡ own = get_or_from_slice_get names i own [] e in
    list_any_at (bytes_eq own) names i [] lt ((bytes_eq-Decides own (get_or names i [])).1 (sym same))

-- what is among some that are all listed is listed
pub listed : (members names : List (List ℕ)) (n : List ℕ) → list_all (is_among names) members ≡ true → is_among members n ≡ true → is_among names n ≡ true
listed [] names n h m = absurd (true≢false (sym m))
listed (own ∷ members) names n h m =
    let two = and_parts (is_among names own) (list_all (is_among names) members) h in
    elim (cases_Bool (bytes_eq n own)) [
      | inl y ↦ subst (λ (o : List ℕ). is_among names o ≡ true) (sym ((bytes_eq-Decides n own).0 y)) two.0
      | inr o ↦ listed members names n two.1 (sym (ap (λ v. v || list_any (bytes_eq n) members) o) ∙ m)
    ]
