-- The first place where a test passes, in a list and in a part of it.
use Rattle.std.proofs.Common.{◌≡◌, ◌<◌, ◌≤◌, ◌+◌, ◌-◌, ◌&&◌, ℕ, zero, suc, Bool, true, false, List, [], ◌∷◌, Option, None, Some, length, map, nat_eq, take, drop, slice_get, refl, sym, ap, ◌∙◌, arith, inl, inr}
use Rattle.std.specs.Option.{option_map, option_map_or}
use Rattle.std.proofs.lemmas.Bool.{and_from, and_parts, cases_Bool}
use Rattle.std.proofs.lemmas.Bool.Decides.{eqb_tells}
use Rattle.std.proofs.lemmas.List.{length-map}
use Rattle.std.proofs.lemmas.Option.{slice_get-map, slice_get_within}
use Rattle.tl_spec.specs.Lookup.Scan.{PassesAt, IsFirstPlace}
use Rattle.tl_selector.specs.NodeTest.{IsFirst}

take-at : {A : Type 0} (xs : List A) (n k : ℕ) → k < n → slice_get (take n xs) k ≡ slice_get xs k
take-at xs zero k h = absurd (omega arith)
take-at [] (suc n) k h = refl
take-at (x ∷ xs) (suc n) zero h = refl
take-at (x ∷ xs) (suc n) (suc k) h = take-at xs n k (omega arith)

drop-at : {A : Type 0} (xs : List A) (i k : ℕ) → slice_get (drop i xs) k ≡ slice_get xs (i + k)
drop-at xs zero k = let same : 0 + k ≡ k = omega arith in rw same refl
drop-at [] (suc i) k = refl
drop-at (x ∷ xs) (suc i) k = let same : suc i + k ≡ suc (i + k) = omega arith in rw same (drop-at xs i k)

part-at : {A B : Type 0} (f : A → B) (xs : List A) (i n k : ℕ) → k < n → slice_get (map f (take n (drop i xs))) k ≡ slice_get (map f xs) (i + k)
part-at f xs i n k h =
    slice_get-map f (take n (drop i xs)) k
    ∙ ap (option_map f) (take-at (drop i xs) n k h ∙ drop-at xs i k)
    ∙ sym (slice_get-map f xs (i + k))

passes-here : {B : Type 0} (p : B → Bool) (o : Option B) → option_map p o ≡ Some true → option_map_or p o false ≡ true
passes-here p None h = cc
passes-here p (Some x) h = cc

fails-here : {B : Type 0} (p : B → Bool) (o : Option B) → (option_map p o ≡ Some true → ⊥) → option_map_or p o false ≡ false
fails-here p None h = refl
fails-here p (Some x) h = elim (cases_Bool (p x)) [ inl y ↦ absurd (h (ap Some y)) | inr n ↦ n ]

both-pass : {B : Type 0} (p q : B → Bool) (o : Option B) → option_map (λ x. p x && q x) o ≡ Some true → (option_map p o ≡ Some true) × (option_map q o ≡ Some true)
both-pass p q None h = cc
both-pass p q (Some x) h = let k : (p x && q x) ≡ true = cc in let r = and_parts (p x) (q x) k in (ap Some r.0, ap Some r.1)

pass-both : {B : Type 0} (p q : B → Bool) (o : Option B) → option_map p o ≡ Some true → option_map q o ≡ Some true → option_map (λ x. p x && q x) o ≡ Some true
pass-both p q None h g = cc
pass-both p q (Some x) h g = let k : p x ≡ true = cc in let l : q x ≡ true = cc in ap Some (and_from (p x) (q x) k l)

passes-within : {B : Type 0} (p : B → Bool) (xs : List B) (m : ℕ) → PassesAt p xs m → m < length xs
passes-within {B = B} p xs m h = within (slice_get xs m) refl h
  where
    within : (o : Option B) → slice_get xs m ≡ o → option_map p o ≡ Some true → m < length xs
    within None e k = cc
    within (Some x) e k = slice_get_within xs m x e

-- where all pass, the first passes
pub first_of_all : {A B : Type 0} (f : A → B) (xs : List A) (p : B → Bool) → ((x : B) → p x ≡ true) → nat_eq (length xs) 0 ≡ false → IsFirstPlace p (map f xs) (Some 0)
first_of_all f [] p h e = cc
first_of_all f (x ∷ xs) p h e = (ap Some (h (f x)), λ m k. omega arith)

module _ {A B : Type 0} (f : A → B) (xs : List A) where
  -- the first number of a part that passes
  pub first_of_part : (p : B → Bool) (from to : ℕ) → from ≤ to → to ≤ length xs → (k : ℕ) → k < to - from → IsFirstPlace p (map f (take (to - from) (drop from xs))) (Some k)
      → IsFirst (λ n. option_map_or p (slice_get (map f xs) n) false) from to (Some (from + k))
  first_of_part p from to l w k s h = (
    omega arith,
    omega arith,
    passes-here p (slice_get (map f xs) (from + k)) (ap (option_map p) (sym (part-at f xs from (to - from) k s)) ∙ h.0),
    λ n a b. fails-here p (slice_get (map f xs) n)
        (λ e. let same : from + (n - from) ≡ n = omega arith in
        let r = h.1 (n - from) (ap (option_map p) (part-at f xs from (to - from) (n - from) (omega arith) ∙ ap (slice_get (map f xs)) same) ∙ e) in
        absurd (omega arith)),
  )

  pub none_of_part : (p : B → Bool) (from to : ℕ) → from ≤ to → to ≤ length xs → IsFirstPlace p (map f (take (to - from) (drop from xs))) None
      → IsFirst (λ n. option_map_or p (slice_get (map f xs) n) false) from to None
  none_of_part p from to l w h n a b =
      fails-here p (slice_get (map f xs) n)
      (λ e. let same : from + (n - from) ≡ n = omega arith in
      h (n - from) (ap (option_map p) (part-at f xs from (to - from) (n - from) (omega arith) ∙ ap (slice_get (map f xs)) same) ∙ e))

  -- what passes stands in the list
  pub none_past : (p : B → Bool) (from : ℕ) → length xs ≤ from → ((m : ℕ) → PassesAt p (map f xs) m → from ≤ m) → IsFirstPlace p (map f xs) None
  none_past p from h before m e =
      let l = before m e in
      let w = passes-within p (map f xs) m e in
      let s = length-map xs f in
      absurd (omega arith)

  module _ (p q : B → Bool) (from : ℕ) (before : (m : ℕ) → PassesAt (λ x. p x && q x) (map f xs) m → from ≤ m) where
    abbrev pub rest : List B
    rest = map f (take (length xs - from) (drop from xs))

    passes-in-rest : (m : ℕ) → PassesAt (λ x. p x && q x) (map f xs) m → PassesAt p rest (m - from)
    passes-in-rest m h =
        let l = before m h in
        let w = passes-within (λ x. p x && q x) (map f xs) m h in
        let s = length-map xs f in
        let same : from + (m - from) ≡ m = omega arith in
        ap (option_map p) (part-at f xs from (length xs - from) (m - from) (omega arith) ∙ ap (slice_get (map f xs)) same) ∙ (both-pass p q (slice_get (map f xs) m) h).0

    -- nothing that is left passes the first of two tests
    pub none_of_both : IsFirstPlace p rest None → IsFirstPlace (λ x. p x && q x) (map f xs) None
    none_of_both h m e = h (m - from) (passes-in-rest m e)

    least : (k : ℕ) → IsFirstPlace p rest (Some k) → (m : ℕ) → PassesAt (λ x. p x && q x) (map f xs) m → from + k ≤ m
    least k h m e = let l = before m e in let r = h.1 (m - from) (passes-in-rest m e) in omega arith

    -- what passes the first passes the second
    pub first_of_both : (k : ℕ) (x : B) → k < length xs - from → slice_get (map f xs) (from + k) ≡ Some x → IsFirstPlace p rest (Some k) → q x ≡ true → IsFirstPlace (λ x. p x && q x) (map f xs) (Some (from + k))
    first_of_both k x w s h e = (
      pass-both p q (slice_get (map f xs) (from + k)) (ap (option_map p) (sym (part-at f xs from (length xs - from) k w)) ∙ h.0) (ap (option_map q) s ∙ ap Some e),
      least k h,
    )

    -- it doesn't
    pub later_of_both : (k : ℕ) (x : B) → slice_get (map f xs) (from + k) ≡ Some x → IsFirstPlace p rest (Some k) → q x ≡ false → (m : ℕ) → PassesAt (λ x. p x && q x) (map f xs) m → from + k + 1 ≤ m
    later_of_both k x s h e m g =
        elim (eqb_tells m (from + k)) [
          | inl w ↦ let r = (both-pass p q (slice_get (map f xs) m) g).1 in let t : Some (q x) ≡ Some true = sym (ap (option_map q) (ap (slice_get (map f xs)) w.1 ∙ s)) ∙ r in cc
          | inr w ↦ let r = least k h m g in let v = w.1 in omega arith
        ]
