-- The words of a text, read one character after the other.
use Rattle.std.proofs.Common.{◌≡◌, ◌<◌, ◌==◌, ◌||◌, ◌↔◌, ℕ, zero, suc, Bool, true, false, List, [], ◌∷◌, length, refl, sym, ap, subst, ◌∙◌, arith, Option, Some, None, IsTrue, inl, inr}
use Rattle.std.specs.Char.{is_whitespace}
use Rattle.std.specs.List.{Contains, slice_split, onto_first}
use Rattle.std.proofs.lemmas.Bool.{cases_Bool}
use Rattle.std.proofs.lemmas.List.Elements.{Contains-append_right}
use Rattle.std.proofs.lemmas.List.Splits.{length-slice_split}
use Rattle.bstr.specs.Utf8.{lossy_chars}
use Rattle.tl_spec.specs.Select.LossyText.{HasWord, words}
use Rattle.tl_selector.specs.LossyChars.{same, advance, is_done, scan}
use Rattle.tl_selector.proofs.LossyTexts.{same-eq, same-refl}

-- what is left of a word is what a part says
abbrev matching : Option (List ℕ) → List ℕ → Bool
matching None p = false
matching (Some x) p = same x p

abbrev is_one_of : List ℕ → List (List ℕ) → Bool
is_one_of w [] = false
is_one_of w (p ∷ ps) = same w p || is_one_of w ps

-- what is left of the word is what the first part says, or a later part is the word
abbrev goes_on : List ℕ → Option (List ℕ) → List (List ℕ) → Bool
goes_on w left [] = false
goes_on w left (p ∷ ps) = matching left p || is_one_of w ps

done_is : (left : Option (List ℕ)) → is_done left ≡ matching left []
done_is None = refl
done_is (Some []) = refl
done_is (Some (d ∷ x)) = refl

advance_is : (left : Option (List ℕ)) (c : ℕ) (p : List ℕ) → matching (advance left c) p ≡ matching left (c ∷ p)
advance_is None c p = refl
advance_is (Some []) c p = refl
advance_is (Some (d ∷ x)) c p = elim (cases_Bool (d == c)) [ inl y ↦ rw y refl | inr n ↦ rw n refl ]

or_false : (b : Bool) → (b || false) ≡ b
or_false true = refl
or_false false = refl

whole_is : (w : List ℕ) (ps : List (List ℕ)) → goes_on w (Some w) ps ≡ is_one_of w ps
whole_is w [] = refl
whole_is w (p ∷ ps) = refl

onto_is : (w : List ℕ) (left : Option (List ℕ)) (c : ℕ) (ps : List (List ℕ)) → 0 < length ps → goes_on w (advance left c) ps ≡ goes_on w left (onto_first c ps)
onto_is w left c [] h = absurd (omega arith)
onto_is w left c (p ∷ ps) h = ap (λ b. b || is_one_of w ps) (advance_is left c p)

scan_is : (w : List ℕ) (left : Option (List ℕ)) (text : List ℕ) → scan w left text ≡ goes_on w left (slice_split is_whitespace text)
scan_is w left [] = done_is left ∙ sym (or_false (matching left []))
scan_is w left (c ∷ text) =
    let parts = slice_split is_whitespace text in
    elim (cases_Bool (is_whitespace c)) [
      | inl y ↦ rw y (ap (λ b. b || scan w (Some w) text) (done_is left) ∙ ap (λ b. matching left [] || b) (scan_is w (Some w) text ∙ whole_is w parts))
      | inr n ↦ rw n (scan_is w (advance left c) text ∙ onto_is w left c parts (omega (arith, length-slice_split is_whitespace text)))
    ]

contains_one : (w : List ℕ) (ps : List (List ℕ)) → is_one_of w ps ≡ true → Contains ps w
contains_one w [] h = cc
contains_one w (p ∷ ps) h =
    elim (cases_Bool (same w p)) [
      | inl y ↦ (0, omega arith, sym (same-eq w p y))
      | inr n ↦ let later : is_one_of w ps ≡ true = rw n at h in Contains-append_right (p ∷ []) ps w (contains_one w ps later)
    ]

one_contained : (w : List ℕ) (ps : List (List ℕ)) → Contains ps w → is_one_of w ps ≡ true
one_contained w [] h = absurd (omega (arith, h.1))
one_contained w (p ∷ ps) (zero, l, e) = let is : same w p ≡ true = subst (λ (x : List ℕ). same w x ≡ true) (sym e) (same-refl w) in rw is refl
one_contained w (p ∷ ps) (suc k, l, e) =
    let later = one_contained w ps (k, omega (arith, l), e) in
    elim (cases_Bool (same w p)) [ inl y ↦ rw y refl | inr n ↦ rw n later ]

pub word_texts : (value word : List ℕ) → 0 < length word → (IsTrue (scan (lossy_chars word) (Some (lossy_chars word)) (lossy_chars value))) ↔ (HasWord value word)
word_texts value [] h = absurd (omega arith)
word_texts value (b ∷ bs) h =
    let w = lossy_chars (b ∷ bs) in
    let is = scan_is w (Some w) (lossy_chars value) ∙ whole_is w (words value) in (
      λ k. record { some = λ (e : b ∷ bs ≡ []). cc; among = contains_one w (words value) (sym is ∙ k) },
      λ k. is ∙ one_contained w (words value) k.among,
    )

pub no_word : (value word : List ℕ) → length word ≡ 0 → HasWord value word → ⊥
no_word value [] h k = k.some refl
no_word value (b ∷ bs) h k = absurd (omega arith)
