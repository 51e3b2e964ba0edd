-- What stands after a `&`, as the definition looks at it: names, and what is passed over.
use Rattle.std.proofs.Common.{◌≡◌, ℕ, zero, suc, ◌≤◌, Bool, true, false, not, ◌&&◌, ◌==◌, List, [], ◌∷◌, ◌++◌, length, drop, Option, Some, None, inl, inr, refl, ap, sym, ◌∙◌, arith, append_assoc, option_map, if◌then◌else◌}
use Rattle.std.specs.Char.{is_ascii_alphanumeric}
use Rattle.std.specs.List.{list_all, starts_with}
use Rattle.std.proofs.lemmas.Bool.{and_parts, and_from, not-true}
use Rattle.std.proofs.lemmas.List.{drop-append-le}
use Rattle.std.proofs.lemmas.List.Folds.{list_all-append}
use Rattle.tl_html_spec.specs.References.{Reference, begins_with, ends_with_semicolon, goes_on, is_left, named_reference, named_value, resolved}
use Rattle.tl_html_spec.specs.Unescaped.{numeric_reference, one_before, or_itself, reference, unescaped, unescaped_after}
use Rattle.tl_html_spec.proofs.NameForms.{is_name}
use Rattle.tl_html_spec.proofs.Ahead.{Alike, AreLetters, IsWithin, apart, is_name_byte, letters-same, letters-within, named-same, named-within, semicolon-same, semicolon-within}

-- bytes that stand for themselves

abbrev pub is_plain : ℕ → Bool
is_plain b = not (b == 38)

pub byte-plain : (v : Bool) (b : ℕ) (s : List ℕ) → (b == 38) ≡ false → unescaped v (b ∷ s) ≡ b ∷ unescaped v s
byte-plain v b s e =
    ap (λ (y : Bool). if y then (or_itself (reference v s)).gives ++ unescaped_after v (or_itself (reference v s)).takes s else b ∷ unescaped_after v 0 s) e

pub bytes-plain : (v : Bool) (w s : List ℕ) → list_all is_plain w ≡ true → unescaped v (w ++ s) ≡ w ++ unescaped v s
bytes-plain v [] s h = refl
bytes-plain v (b ∷ w) s h =
    let here = and_parts (is_plain b) (list_all is_plain w) h in
    byte-plain v b (w ++ s) (not-true (b == 38) here.0) ∙ ap (λ x. b ∷ x) (bytes-plain v w s here.1)

pub letters-plain : (w : List ℕ) → AreLetters w → list_all is_plain w ≡ true
letters-plain [] h = refl
letters-plain (b ∷ w) h =
    let here = and_parts (is_ascii_alphanumeric b) (list_all is_ascii_alphanumeric w) h in
    and_from (is_plain b) (list_all is_plain w) (ap not (apart is_ascii_alphanumeric b 38 here.0 refl)) (letters-plain w here.1)

drop-plain : (n : ℕ) (w : List ℕ) → list_all is_plain w ≡ true → list_all is_plain (drop n w) ≡ true
drop-plain zero w h = h
drop-plain (suc n) [] h = refl
drop-plain (suc n) (b ∷ w) h = drop-plain n w (and_parts (is_plain b) (list_all is_plain w) h).1

-- bytes that a reference takes

pub passes : (v : Bool) (n : ℕ) (s : List ℕ) → unescaped_after v n s ≡ unescaped v (drop n s)
passes v zero s = refl
passes v (suc n) [] = refl
passes v (suc n) (b ∷ s) = passes v n s

abbrev pub read_as : Bool → Option Reference → List ℕ → List ℕ
read_as v o s = (or_itself o).gives ++ unescaped_after v (or_itself o).takes s

pub taken : (v : Bool) (o : Option Reference) (u t : List ℕ) → list_all is_plain u ≡ true → IsWithin o u → read_as v o (u ++ t) ≡ resolved o u ++ unescaped v t
taken v None u t h within = ap (λ s. 38 ∷ s) (bytes-plain v u t h)
taken v (Some r) u t h within =
    ap (λ s. r.gives ++ s)
    (passes v r.takes (u ++ t) ∙ ap (unescaped v) (drop-append-le r.takes u t (within r refl)) ∙ bytes-plain v (drop r.takes u) t (drop-plain r.takes u h))
    ∙ sym (append_assoc r.gives (drop r.takes u) (unescaped v t))

-- names

pub letter-named : (v : Bool) (c : ℕ) (s : List ℕ) → is_ascii_alphanumeric c ≡ true → reference v (c ∷ s) ≡ named_reference v (c ∷ s)
letter-named v c s e =
    ap (λ (y : Bool). let o : Option Reference = if y then named_reference v (c ∷ s) else if c == 35 then option_map one_before (numeric_reference s) else None in o) e

named-read : (v : Bool) (c : ℕ) (u t r : List ℕ) → is_ascii_alphanumeric c ≡ true → list_all is_plain (c ∷ u) ≡ true → Alike (c ∷ u) t r →
    unescaped v (38 ∷ ((c ∷ u) ++ t)) ≡ named_value v (c ∷ u) r ++ unescaped v t
named-read v c u t r e plain alike =
    ap (λ o. read_as v o ((c ∷ u) ++ t)) (letter-named v c (u ++ t) e)
    ∙ taken v (named_reference v ((c ∷ u) ++ t)) (c ∷ u) t plain (named-within v c u t r alike)
    ∙ ap (λ o. resolved o (c ∷ u) ++ unescaped v t) (named-same v c u t r alike)

left-same : (n x t r : List ℕ) → begins_with goes_on t ≡ begins_with goes_on r → is_left n (x ++ t) ≡ is_left n (x ++ r)
left-same n [] t r e = ap (λ (b : Bool). not (ends_with_semicolon n) && b) e
left-same n (b ∷ x) t r e = refl

pub letters-alike : (w t r : List ℕ) → begins_with is_name_byte t ≡ false → begins_with is_name_byte r ≡ false → begins_with goes_on t ≡ begins_with goes_on r → Alike w t r
letters-alike w t r x y e = record {
  same = λ n h. letters-same w n t r h x y;
  within = λ n h stands.
      let short = letters-within w n t h x stands in (
        short,
        ap (is_left n) (drop-append-le (length n) w t short)
            ∙ left-same n (drop (length n) w) t r e
            ∙ sym (ap (is_left n) (drop-append-le (length n) w r short)),
      );
}

semicolon-left : (n x t : List ℕ) → is_left n ((x ++ 59 ∷ []) ++ t) ≡ is_left n ((x ++ 59 ∷ []) ++ [])
semicolon-left n [] t = refl
semicolon-left n (b ∷ x) t = refl

length-one : (w : List ℕ) → length (w ++ 59 ∷ []) ≡ suc (length w)
length-one [] = refl
length-one (b ∷ w) = ap suc (length-one w)

semicolon-alike : (w t : List ℕ) → Alike (w ++ 59 ∷ []) t []
semicolon-alike w t = record { same = same; within = within }
  where
    one : (s : List ℕ) → (w ++ 59 ∷ []) ++ s ≡ w ++ 59 ∷ s
    one s = append_assoc w (59 ∷ []) s

    same : (n : List ℕ) → is_name n ≡ true → starts_with ◌==◌ ((w ++ 59 ∷ []) ++ t) n ≡ starts_with ◌==◌ ((w ++ 59 ∷ []) ++ []) n
    same n h =
        ap (λ s. starts_with ◌==◌ s n) (one t) ∙ semicolon-same w n t h ∙ sym (ap (λ s. starts_with ◌==◌ s n) (one []))

    within : (n : List ℕ) → is_name n ≡ true → starts_with ◌==◌ ((w ++ 59 ∷ []) ++ t) n ≡ true →
        (length n ≤ length (w ++ 59 ∷ [])) × (is_left n (drop (length n) ((w ++ 59 ∷ []) ++ t)) ≡ is_left n (drop (length n) ((w ++ 59 ∷ []) ++ [])))
    within n h stands =
        let all = length-one w in
        elim (semicolon-within w n t h (sym (ap (λ s. starts_with ◌==◌ s n) (one t)) ∙ stands)) [
          | inl k ↦ (
              let more : length n ≤ length (w ++ 59 ∷ []) = omega arith in (
                more,
                ap (is_left n) (drop-append-le (length n) (w ++ 59 ∷ []) t more ∙ ap (λ x. x ++ t) (drop-append-le (length n) w (59 ∷ []) k))
                    ∙ semicolon-left n (drop (length n) w) t
                    ∙ sym (ap (is_left n) (drop-append-le (length n) (w ++ 59 ∷ []) [] more ∙ ap (λ x. x ++ []) (drop-append-le (length n) w (59 ∷ []) k))),
              ))
          | inr k ↦ (
            omega arith,
            ap (λ (b : Bool). not b && begins_with goes_on (drop (length n) ((w ++ 59 ∷ []) ++ t))) k.0
                ∙ sym (ap (λ (b : Bool). not b && begins_with goes_on (drop (length n) ((w ++ 59 ∷ []) ++ []))) k.0),
          )
        ]

-- letters and digits that end before this
pub letters-read : (v : Bool) (c : ℕ) (w t r : List ℕ) → AreLetters (c ∷ w) →
    begins_with is_name_byte t ≡ false → begins_with is_name_byte r ≡ false → begins_with goes_on t ≡ begins_with goes_on r →
    unescaped v (38 ∷ ((c ∷ w) ++ t)) ≡ named_value v (c ∷ w) r ++ unescaped v t
letters-read v c w t r h x y e =
    named-read v c w t r (and_parts (is_ascii_alphanumeric c) (list_all is_ascii_alphanumeric w) h).0 (letters-plain (c ∷ w) h) (letters-alike (c ∷ w) t r x y e)

-- letters and digits that a `;` ends
pub semicolon-read : (v : Bool) (c : ℕ) (w t : List ℕ) → AreLetters (c ∷ w) →
    unescaped v (38 ∷ ((c ∷ w) ++ 59 ∷ t)) ≡ named_value v ((c ∷ w) ++ 59 ∷ []) [] ++ unescaped v t
semicolon-read v c w t h =
    let plain : list_all is_plain ((c ∷ w) ++ 59 ∷ []) ≡ true =
    list_all-append is_plain (c ∷ w) (59 ∷ []) ∙ ap (λ (b : Bool). b && true) (letters-plain (c ∷ w) h) in
    ap (λ s. unescaped v (38 ∷ s)) (sym (append_assoc (c ∷ w) (59 ∷ []) t))
    ∙ named-read v c (w ++ 59 ∷ []) t [] (and_parts (is_ascii_alphanumeric c) (list_all is_ascii_alphanumeric w) h).0 plain (semicolon-alike (c ∷ w) t)
