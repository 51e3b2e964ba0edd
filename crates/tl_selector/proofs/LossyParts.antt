-- The end of a lossy text, and a part of it.
use Rattle.std.proofs.Common.{◌≡◌, ◌↔◌, ℕ, true, List, [], ◌∷◌, ◌++◌, length, refl, sym, ap, subst, ◌∙◌, arith, Some, None, IsTrue, append_assoc, append-nil, reverse, slice_index, inl, inr, map}
use Rattle.std.specs.Char.{encode_utf8}
use Rattle.std.specs.Str.{encode_utf8_all}
use Rattle.std.specs.Str.Lossy.{utf8_lossy}
use Rattle.std.proofs.lemmas.Bool.{and_parts, cases_Bool}
use Rattle.std.proofs.lemmas.List.{reverse-append, reverse-reverse, map-append}
use lib.Utf8.{scalar, scalars}
use Rattle.bstr.specs.Utf8.{Decoded, or_replacement, decoded, bad, continues, pieces, lossy_chars}
use Rattle.bstr.proofs.lemmas.PieceLemmas.{lossy_chars-nil, continuation-alone, StartsClean, pieces-append}
use Rattle.bstr.proofs.lemmas.EncodeLemmas.{decoded-encode}
use Rattle.bstr.proofs.lemmas.LossyLemmas.{lossy_chars-utf8_lossy, lossy_chars-front}
use Rattle.tl_spec.specs.Select.LossyText.{EndsWith, HasPart}
use Rattle.tl_selector.specs.LossyChars.{begins, has_part}
use Rattle.tl_selector.proofs.LossyTexts.{scalars_of, chars_of, begins-front, begins-append, encode_all-append, part_front}

-- what begins with a character begins with no continuation
clean_char : (c : ℕ) (rest : List ℕ) → scalar c ≡ true → StartsClean (encode_utf8 c ++ rest)
clean_char c rest h some =
    let bs = encode_utf8 c ++ rest in
    elim (cases_Bool (continues (slice_index bs 0))) [
      | inl y ↦
          let a : decoded bs ≡ bad 1 = continuation-alone (length bs) (slice_index bs 0) (slice_index bs 1) (slice_index bs 2) (slice_index bs 3) some y in
          let e : None ≡ Some c = sym (ap (λ (d : Decoded). d.char) a) ∙ ap (λ (d : Decoded). d.char) (decoded-encode c rest h) in cc
      | inr n ↦ n
    ]

pub lossy_behind : (xs ys : List ℕ) → StartsClean ys → lossy_chars (xs ++ ys) ≡ lossy_chars xs ++ lossy_chars ys
lossy_behind xs ys h = ap (map (λ (p : Decoded). or_replacement p.char)) (pieces-append (length xs) xs ys (omega arith) h) ∙ map-append (λ (p : Decoded). or_replacement p.char) (pieces xs) (pieces ys)

-- characters behind any bytes, and before any bytes
behind_before : (xs cs ys : List ℕ) → scalars cs ≡ true → (cs ≡ [] → ys ≡ []) → lossy_chars (xs ++ (encode_utf8_all cs ++ ys)) ≡ lossy_chars xs ++ (cs ++ lossy_chars ys)
behind_before xs [] ys h f = rw (f refl) (rw append-nil (rw lossy_chars-nil (sym (append-nil (lossy_chars xs)))))
behind_before xs (c ∷ cs) ys h f =
    let both = and_parts (scalar c) (scalars cs) h in
    let clean : StartsClean (encode_utf8_all (c ∷ cs) ++ ys) = subst StartsClean (sym (append_assoc (encode_utf8 c) (encode_utf8_all cs) ys)) (clean_char c (encode_utf8_all cs ++ ys) both.0) in
    lossy_behind xs (encode_utf8_all (c ∷ cs) ++ ys) clean ∙ ap (λ (z : List ℕ). lossy_chars xs ++ z) (lossy_chars-front (c ∷ cs) ys h)

-- a text ends with another where its characters do
pub ends-from_chars : (a b front : List ℕ) → lossy_chars a ≡ front ++ lossy_chars b → EndsWith a b
ends-from_chars a b front e =
    (encode_utf8_all front, sym (lossy_chars-utf8_lossy a) ∙ (ap encode_utf8_all e ∙ (encode_all-append front (lossy_chars b) ∙ ap (λ (z : List ℕ). encode_utf8_all front ++ z) (lossy_chars-utf8_lossy b))))

pub chars_behind : (xs cs : List ℕ) → scalars cs ≡ true → lossy_chars (xs ++ encode_utf8_all cs) ≡ lossy_chars xs ++ cs
chars_behind xs cs h =
    ap (λ (z : List ℕ). lossy_chars (xs ++ z)) (sym (append-nil (encode_utf8_all cs))) ∙ behind_before xs cs [] h (λ _. refl)
    ∙ ap (λ (z : List ℕ). lossy_chars xs ++ z) (ap (λ (z : List ℕ). cs ++ z) lossy_chars-nil ∙ append-nil cs)

pub chars-from_ends : (a b : List ℕ) → EndsWith a b → (front : List ℕ) × (lossy_chars a ≡ front ++ lossy_chars b)
chars-from_ends a b h =
    (lossy_chars h.0, sym (chars_of a) ∙ (ap lossy_chars (h.1 ∙ ap (λ (z : List ℕ). h.0 ++ z) (sym (lossy_chars-utf8_lossy b))) ∙ chars_behind h.0 (lossy_chars b) (scalars_of b)))

pub ends_texts : (a b : List ℕ) → (IsTrue (begins (reverse (lossy_chars a)) (reverse (lossy_chars b)))) ↔ (EndsWith a b)
ends_texts a b = (
  λ h. let r = begins-front (reverse (lossy_chars a)) (reverse (lossy_chars b)) h in
      ends-from_chars a b (reverse r.0)
      (sym (reverse-reverse (lossy_chars a)) ∙ (ap reverse r.1 ∙ (reverse-append (reverse (lossy_chars b)) r.0 ∙ ap (λ (z : List ℕ). reverse r.0 ++ z) (reverse-reverse (lossy_chars b))))),
  λ h. let r = chars-from_ends a b h in
      let turned = ap reverse r.1 ∙ reverse-append r.0 (lossy_chars b) in
      subst (λ (z : List ℕ). begins z (reverse (lossy_chars b)) ≡ true) (sym turned) (begins-append (reverse (lossy_chars b)) (reverse r.0)),
)

pub part-some : (xs ys : List ℕ) → has_part xs ys ≡ true → (x : List ℕ) × (z : List ℕ) × (xs ≡ x ++ (ys ++ z))
part-some [] ys h = let r = begins-front [] ys h in ([], r.0, r.1)
part-some (x ∷ xs) ys h =
    elim (cases_Bool (begins (x ∷ xs) ys)) [
      | inl y ↦ let r = begins-front (x ∷ xs) ys y in ([], r.0, r.1)
      | inr n ↦ let k : has_part xs ys ≡ true = rw n at h in let r = part-some xs ys k in (x ∷ r.0, r.1, ap (λ (z : List ℕ). x ∷ z) r.2)
    ]

part-append : (x ys z : List ℕ) → has_part (x ++ (ys ++ z)) ys ≡ true
part-append [] ys z = part_front (ys ++ z) ys (begins-append ys z)
part-append (d ∷ x) ys z =
    elim (cases_Bool (begins (d ∷ (x ++ (ys ++ z))) ys)) [ inl y ↦ rw y refl | inr n ↦ rw n (part-append x ys z) ]

front-nil : (xs ys : List ℕ) → ys ≡ [] → has_part xs ys ≡ true
front-nil xs ys e = part_front xs ys (subst (λ (y : List ℕ). begins xs y ≡ true) (sym e) (begins-append [] xs))

-- the empty part, or one with a first character
pub part-bytes : (a xs cs ys : List ℕ) → scalars cs ≡ true → a ≡ xs ++ (encode_utf8_all cs ++ ys) → has_part (lossy_chars a) cs ≡ true
part-bytes a xs [] ys h e = front-nil (lossy_chars a) [] refl
part-bytes a xs (c ∷ cs) ys h e =
    subst (λ (z : List ℕ). has_part z (c ∷ cs) ≡ true) (sym (ap lossy_chars e ∙ behind_before xs (c ∷ cs) ys h (λ (k : c ∷ cs ≡ []). cc))) (part-append (lossy_chars xs) (c ∷ cs) (lossy_chars ys))

pub part_texts : (a b : List ℕ) → (IsTrue (has_part (lossy_chars a) (lossy_chars b))) ↔ (HasPart a b)
part_texts a b = (
  λ h. let r = part-some (lossy_chars a) (lossy_chars b) h in
      let e = sym (lossy_chars-utf8_lossy a) ∙ (ap encode_utf8_all r.2 ∙ (encode_all-append r.0 (lossy_chars b ++ r.1) ∙ ap (λ (z : List ℕ). encode_utf8_all r.0 ++ z) (encode_all-append (lossy_chars b) r.1 ∙ ap (λ (z : List ℕ). z ++ encode_utf8_all r.1) (lossy_chars-utf8_lossy b)))) in
      (encode_utf8_all r.0, encode_utf8_all r.1, e ∙ sym (append_assoc (encode_utf8_all r.0) (utf8_lossy b) (encode_utf8_all r.1))),
  λ h. subst (λ (z : List ℕ). has_part z (lossy_chars b) ≡ true) (chars_of a)
      (part-bytes (utf8_lossy a) h.0 (lossy_chars b) h.1 (scalars_of b) (h.2 ∙ (append_assoc h.0 (utf8_lossy b) h.1 ∙ ap (λ (z : List ℕ). h.0 ++ (z ++ h.1)) (sym (lossy_chars-utf8_lossy b))))),
)
