-- Texts and values of which all stays.
use Rattle.std.proofs.Common.{◌≡◌, ℕ, Bool, true, false, if◌then◌else◌, not, ◌||◌, ◌&&◌, ◌==◌, eqb, List, [], ◌∷◌, Option, Some, None, is_some, get_or, refl, ap, sym, ◌∙◌, arith}
use Rattle.std.specs.List.{list_all}
use Rattle.std.proofs.lemmas.Bool.{and_from, and_parts, false_from_ne_true, not-true}
use Rattle.std.proofs.lemmas.List.Elements.{All-from_get_or}
use Rattle.std.proofs.lemmas.List.Folds.{list_all_at}
use Rattle.std.proofs.lemmas.List.Sums.{list_all-from_AllPass}
use Rattle.memchr.specs.Find.{IsFirstByte, is_byte3}
use Rattle.tl_tree_safe.specs.Inner.Cleaning.{is_whole}
use Rattle.tl_tree_safe.specs.Characters.{cleaned, is_said}

-- a search for a byte that may not stand, and a test of all bytes
none_found : (stops stays : ℕ → Bool) → ((b : ℕ) → stays b ≡ not (stops b)) → (s : List ℕ) (r : Option ℕ) → IsFirstByte stops s r → list_all stays s ≡ not (is_some r)
none_found stops stays opposite s None nowhere =
    list_all-from_AllPass stays s
    (All-from_get_or (λ b. stays b ≡ true) s 0
    (λ k below. opposite (get_or s k 0) ∙ ap not (false_from_ne_true _ (nowhere k (omega arith) below))))
none_found stops stays opposite s (Some k) found =
    list_all_at stays s k 0 found.0.high (opposite (get_or s k 0) ∙ ap not found.1)

twice : (b : Bool) → not (not b) ≡ b
twice true = refl
twice false = refl

none_of_three : (x y z : Bool) → (not x && not y && not z) ≡ not (x || y || z)
none_of_three true true true = refl
none_of_three true true false = refl
none_of_three true false true = refl
none_of_three true false false = refl
none_of_three false true true = refl
none_of_three false true false = refl
none_of_three false false true = refl
none_of_three false false false = refl

-- bytes in which no 0, carriage return or 27 is found
pub whole : (s : List ℕ) (r : Option ℕ) (found : Bool) → IsFirstByte (is_byte3 0 13 27) s r → is_some r ≡ not found → found ≡ list_all is_whole s
whole s r found is e =
    let all = none_found (is_byte3 0 13 27) is_whole (λ b. none_of_three (eqb b 0) (eqb b 13) (eqb b 27)) s r is in
    sym (all ∙ ap not e ∙ twice found)

-- they stay as they are
pub whole_stays : (s : List ℕ) → list_all is_whole s ≡ true → cleaned s ≡ s
whole_stays [] h = refl
whole_stays (b ∷ s) h =
    let p = and_parts (is_whole b) (list_all is_whole s) h in
    let q = and_parts (not (b == 0) && not (b == 13)) (not (b == 27)) p.0 in
    let r = and_parts (not (b == 0)) (not (b == 13)) q.0 in
    ap (λ (v : Bool). if (is_said (if v then 32 else b)) then ((if v then 32 else b) ∷ cleaned s) else cleaned s) (not-true (b == 13) r.1)
    ∙ ap (λ (v : Bool). if v then b ∷ cleaned s else cleaned s) (and_from (not (b == 0)) (not (b == 27)) r.0 q.1)
    ∙ ap (λ (t : List ℕ). b ∷ t) (whole_stays s p.1)
