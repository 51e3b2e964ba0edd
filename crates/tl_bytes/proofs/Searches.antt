-- Facts of the first place of a class.
use Rattle.std.proofs.Common.{◌≡◌, ℕ, Bool, true, false, eqb, ◌||◌, ◌&&◌, map, List, [], ◌∷◌, length, Option, Some, None, refl, sym, ap, ap₂, ◌∙◌, arith, inl, inr, le_refl}
use Rattle.std.specs.List.{position_or_len, list_any, list_all, zip}
use Rattle.std.specs.Str.{bytes_eq}
use Rattle.std.proofs.lemmas.Bool.{cases_eq, eq-eqb, ne_eqb, lt-ltb, le-ltb, cond-true, cond-false}
use Rattle.std.proofs.lemmas.List.Sums.{position_or_len_is}
use Rattle.memchr.specs.Find.{IsFirstByte}
use Rattle.tl_bytes.specs.Search.{first, is_one_of}

pub eqb-comm : (a b : ℕ) → eqb a b ≡ eqb b a
eqb-comm a b =
    elim (cases_eq a b) [
      | inl same ↦ eq-eqb a b same ∙ sym (eq-eqb b a (sym same))
      | inr other ↦ ne_eqb a b other ∙ sym (ne_eqb b a (λ same. other (sym same)))
    ]

passes_not : (t : Bool) → ¬ (t ≡ true) → t ≡ false
passes_not true never = absurd (never refl)
passes_not false never = refl

-- what `memchr` says of its answer
pub first_from_IsFirstByte : (p : ℕ → Bool) (s : List ℕ) (r : Option ℕ) → IsFirstByte p s r → r ≡ first p s
first_from_IsFirstByte p s None nowhere =
    let all = position_or_len_is p s (length s) 0 (le_refl (length s)) (λ k below. passes_not _ (nowhere k (omega arith) below)) (λ below. absurd (omega arith)) in
    sym (cond-false _ _ _ (le-ltb (position_or_len p s) (length s) (omega (arith, all))))
first_from_IsFirstByte p s (Some k) found =
    let inside = found.0.high in
    let at = position_or_len_is p s k 0 (omega arith) (λ j below. passes_not _ (found.0.before j (omega arith) below)) (λ _. found.1) in
    sym (cond-true _ _ _ (lt-ltb (position_or_len p s) (length s) (omega (arith, at, inside))) ∙ ap Some at)

-- whether the byte is among the needles, as `contains` asks it
pub is_one_of-comm : (needles : List ℕ) (b : ℕ) → list_any (λ needle. eqb needle b) needles ≡ is_one_of needles b
is_one_of-comm [] b = refl
is_one_of-comm (needle ∷ needles) b = ap₂ (λ t u. t || u) (eqb-comm needle b) (is_one_of-comm needles b)

-- byte by byte, or as lists of one length
pub list_all-zip : (f : ℕ → ℕ) (xs ys : List ℕ) → length xs ≡ length ys
    → list_all (λ (p : ℕ × ℕ). eqb (f p.0) p.1) (zip xs ys) ≡ bytes_eq (map f xs) ys
list_all-zip f [] [] same = refl
list_all-zip f [] (y ∷ ys) same = absurd (omega arith)
list_all-zip f (x ∷ xs) [] same = absurd (omega arith)
list_all-zip f (x ∷ xs) (y ∷ ys) same = ap (λ t. eqb (f x) y && t) (list_all-zip f xs ys (omega arith))
