-- End tags one after the other.
use Rattle.std.proofs.Common.{◌≡◌, ◌≤◌, ◌<◌, ℕ, ◌+◌, Bool, true, false, ◌&&◌, ◌==◌, List, [], ◌∷◌, ◌++◌, length, take, drop, get_or, map, refl, ap, sym, ◌∙◌, inl, inr, arith}
use Rattle.std.proofs.lemmas.Bool.{cases_Bool, eqb-true}
use Rattle.std.proofs.lemmas.Bool.Decides.{nat_tests}
use Rattle.std.proofs.lemmas.List.{drop_all, drop_more, length-take}
use Rattle.tl_html_spec.specs.HtmlTokenizer.{EndTag, HtmlToken}
use Rattle.tl_html_spec.specs.Balanced.{Names}
use Rattle.tl_patch_spec.specs.Elements.{PlacedToken, at_piece, tokens_at}
use Rattle.tl_patch_elements.specs.Inner.Finding.{elements_with}
use Rattle.tl_patch_elements.specs.declared.finder.Finder.{Finder}

-- of several the last one is
pub last_own : (n : ℕ) (w : Bool) (xs : List HtmlToken) (y : HtmlToken) (ys : List HtmlToken) → tokens_at n w (xs ++ y ∷ ys) ≡ tokens_at n false xs ++ tokens_at n w (y ∷ ys)
last_own n w [] y ys = refl
last_own n w (x ∷ []) y ys = refl
last_own n w (x ∷ z ∷ xs) y ys = ap (λ us. at_piece n false x ∷ us) (last_own n w (z ∷ xs) y ys)

abbrev is_empty : List HtmlToken → Bool
is_empty [] = true
is_empty (t ∷ ts) = false

and_true : (w : Bool) → w ≡ (w && true)
and_true true = refl
and_true false = refl

and_false : (w : Bool) → false ≡ (w && false)
and_false true = refl
and_false false = refl

first_own : (n : ℕ) (w : Bool) (t : HtmlToken) (ts : List HtmlToken) → tokens_at n w (t ∷ ts) ≡ at_piece n (w && is_empty ts) t ∷ tokens_at n w ts
first_own n w t [] = ap (λ v. at_piece n v t ∷ []) (and_true w)
first_own n w t (u ∷ ts) = ap (λ v. at_piece n v t ∷ tokens_at n w (u ∷ ts)) (and_false w)

none_left : (xs : Names) (j : ℕ) → j ≤ length xs → is_empty (map EndTag (drop j xs)) ≡ (j == length xs)
none_left xs j l = elim (cases_Bool (j == length xs)) [
  | inl e ↦ (
      let s : j ≡ length xs = eqb-true j (length xs) e in
      ap (λ (ys : Names). is_empty (map EndTag ys)) (drop_all j xs (omega arith)) ∙ sym e)
  | inr e ↦ (
      let more : j < length xs = grind (arith, nat_tests) in
      ap (λ (ys : Names). is_empty (map EndTag ys)) (drop_more xs j [] more) ∙ sym e)
]

abbrev pub EndsOf : Bool → ℕ → Names → List PlacedToken
EndsOf w p names = tokens_at p w (map EndTag names)

-- how far elements have ended: what is left does the rest
pub close_step : (f g h : Finder) (names : Names) (count k p : ℕ) (w : Bool) → count ≤ length names → k < count →
    ((rest : List PlacedToken) → elements_with f (EndsOf w p (take count names) ++ rest) ≡ elements_with g (EndsOf w p (drop k (take count names)) ++ rest)) →
    ((name : List ℕ) (rest : List PlacedToken) → elements_with g (at_piece p (w && (k + 1 == count)) (EndTag name) ∷ rest) ≡ elements_with h rest) →
    (rest : List PlacedToken) → elements_with f (EndsOf w p (take count names) ++ rest) ≡ elements_with h (EndsOf w p (drop (k + 1) (take count names)) ++ rest)
close_step f g h names count k p w l m i s rest =
    let xs : Names = take count names in
    let len : length xs ≡ count = omega (arith, length-take count names) in
    let here : k < length xs = omega arith in
    let next : k + 1 ≤ length xs = omega arith in
    let flag : is_empty (map EndTag (drop (k + 1) xs)) ≡ (k + 1 == count) = none_left xs (k + 1) next ∙ ap (λ j. k + 1 == j) len in
    i rest
    ∙ ap (λ (ys : Names). elements_with g (EndsOf w p ys ++ rest)) (drop_more xs k [] here)
    ∙ ap (λ ts. elements_with g (ts ++ rest)) (first_own p w (EndTag (get_or xs k [])) (map EndTag (drop (k + 1) xs)))
    ∙ ap (λ (v : Bool). elements_with g (at_piece p (w && v) (EndTag (get_or xs k [])) ∷ (EndsOf w p (drop (k + 1) xs) ++ rest))) flag
    ∙ s (get_or xs k []) (EndsOf w p (drop (k + 1) xs) ++ rest)

pub close_end : (f g : Finder) (names : Names) (count k p : ℕ) (w : Bool) → count ≤ k →
    ((rest : List PlacedToken) → elements_with f (EndsOf w p (take count names) ++ rest) ≡ elements_with g (EndsOf w p (drop k (take count names)) ++ rest)) →
    (rest : List PlacedToken) → elements_with f (EndsOf w p (take count names) ++ rest) ≡ elements_with g rest
close_end f g names count k p w l i rest =
    let xs : Names = take count names in
    let len : length xs ≤ k = omega (arith, length-take count names) in
    i rest ∙ ap (λ (ys : Names). elements_with g (EndsOf w p ys ++ rest)) (drop_all k xs len)
