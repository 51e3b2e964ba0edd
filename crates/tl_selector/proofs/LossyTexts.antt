-- Lossy texts are the same where their characters are, and one begins with the other where its characters do.
use Rattle.std.proofs.Common.{◌≡◌, ◌<◌, ◌≤◌, ◌==◌, ◌↔◌, ℕ, zero, suc, true, List, [], ◌∷◌, ◌++◌, length, refl, sym, ap, subst, ◌∙◌, arith, Option, Some, None, length-drop, drop, IsTrue, append_assoc}
use Rattle.std.specs.Char.{encode_utf8}
use Rattle.std.specs.Str.{encode_utf8_all}
use Rattle.std.specs.Str.Lossy.{utf8_lossy}
use Rattle.std.proofs.lemmas.Bool.{and_parts, eqb-true, eq-eqb}
use lib.Utf8.{scalar, scalars}
use Rattle.bstr.specs.Utf8.{or_replacement, decoded, lossy_chars}
use Rattle.bstr.proofs.lemmas.PieceLemmas.{lossy_chars-step, lossy_chars-nil, piece-bounds}
use Rattle.bstr.proofs.lemmas.SoundLemmas.{SpellsChar-decoded}
use Rattle.bstr.proofs.lemmas.EncodeLemmas.{lossy_chars-encode}
use Rattle.bstr.proofs.lemmas.LossyLemmas.{lossy_chars-utf8_lossy, lossy_chars-front}
use Rattle.tl_spec.specs.Select.LossyText.{IsSameText, BeginsWith}
use Rattle.tl_selector.specs.LossyChars.{begins, same, has_part}

scalar_of : (bs : List ℕ) (o : Option ℕ) → (decoded bs).char ≡ o → scalar (or_replacement o) ≡ true
scalar_of bs None e = refl
scalar_of bs (Some y) e = (SpellsChar-decoded bs y e).scalar

scalars_within : (n : ℕ) (bs : List ℕ) → length bs ≤ n → scalars (lossy_chars bs) ≡ true
scalars_within n [] h = rw lossy_chars-nil refl
scalars_within zero (b ∷ bs) h = absurd (omega arith)
scalars_within (suc n) (b ∷ bs) h =
    let some : 0 < length (b ∷ bs) = omega arith in
    let size = piece-bounds (b ∷ bs) some in
    let rest = drop (decoded (b ∷ bs)).size (b ∷ bs) in
    let l : length rest ≤ n = simp length-drop (omega arith) in
    rw (lossy_chars-step (b ∷ bs) some) (rw (scalar_of (b ∷ bs) (decoded (b ∷ bs)).char refl) (scalars_within n rest l))

pub scalars_of : (bs : List ℕ) → scalars (lossy_chars bs) ≡ true
scalars_of bs = scalars_within (length bs) bs (omega arith)

-- the characters of a lossy text
pub chars_of : (bs : List ℕ) → lossy_chars (utf8_lossy bs) ≡ lossy_chars bs
chars_of bs = ap lossy_chars (sym (lossy_chars-utf8_lossy bs)) ∙ lossy_chars-encode (lossy_chars bs) (scalars_of bs)

pub same-eq : (xs ys : List ℕ) → same xs ys ≡ true → xs ≡ ys
same-eq [] [] h = refl
same-eq [] (y ∷ ys) h = cc
same-eq (x ∷ xs) [] h = cc
same-eq (x ∷ xs) (y ∷ ys) h =
    let p = and_parts (x == y) (same xs ys) h in
    let e = eqb-true x y p.0 in
    let f = same-eq xs ys p.1 in cc

pub same-refl : (xs : List ℕ) → same xs xs ≡ true
same-refl [] = refl
same-refl (x ∷ xs) = rw (eq-eqb x x refl, same-refl xs) refl

pub encode_all-append : (xs ys : List ℕ) → encode_utf8_all (xs ++ ys) ≡ encode_utf8_all xs ++ encode_utf8_all ys
encode_all-append [] ys = refl
encode_all-append (x ∷ xs) ys = rw (encode_all-append xs ys) (sym (append_assoc (encode_utf8 x) (encode_utf8_all xs) (encode_utf8_all ys)))

-- the two tests of characters, and what they say of texts
pub same_texts : (a b : List ℕ) → (IsTrue (same (lossy_chars a) (lossy_chars b))) ↔ (IsSameText a b)
same_texts a b = (
  λ h. let e = same-eq (lossy_chars a) (lossy_chars b) h in sym (lossy_chars-utf8_lossy a) ∙ (ap encode_utf8_all e ∙ lossy_chars-utf8_lossy b),
  λ h. let e = sym (chars_of a) ∙ (ap lossy_chars h ∙ chars_of b) in subst (λ (x : List ℕ). same (lossy_chars a) x ≡ true) e (same-refl (lossy_chars a)),
)

pub begins-front : (xs ys : List ℕ) → begins xs ys ≡ true → (rest : List ℕ) × (xs ≡ ys ++ rest)
begins-front xs [] h = (xs, refl)
begins-front [] (y ∷ ys) h = cc
begins-front (x ∷ xs) (y ∷ ys) h =
    let p = and_parts (x == y) (begins xs ys) h in
    let r = begins-front xs ys p.1 in
    let e = eqb-true x y p.0 in
    let f = r.1 in (r.0, cc)

pub begins-append : (ys rest : List ℕ) → begins (ys ++ rest) ys ≡ true
begins-append [] rest = refl
begins-append (y ∷ ys) rest = rw (eq-eqb y y refl, begins-append ys rest) refl

pub begins_texts : (a b : List ℕ) → (IsTrue (begins (lossy_chars a) (lossy_chars b))) ↔ (BeginsWith a b)
begins_texts a b = (
  λ h. let r = begins-front (lossy_chars a) (lossy_chars b) h in
      (encode_utf8_all r.0, sym (lossy_chars-utf8_lossy a) ∙ (ap encode_utf8_all r.1 ∙ (encode_all-append (lossy_chars b) r.0 ∙ ap (λ (x : List ℕ). x ++ encode_utf8_all r.0) (lossy_chars-utf8_lossy b)))),
  λ h. let e : lossy_chars a ≡ lossy_chars b ++ lossy_chars h.0 =
      sym (chars_of a) ∙ (ap lossy_chars (h.1 ∙ ap (λ (x : List ℕ). x ++ h.0) (sym (lossy_chars-utf8_lossy b))) ∙ lossy_chars-front (lossy_chars b) h.0 (scalars_of b)) in
      subst (λ (x : List ℕ). begins x (lossy_chars b) ≡ true) (sym e) (begins-append (lossy_chars b) (lossy_chars h.0)),
)

pub part_front : (value part : List ℕ) → begins value part ≡ true → has_part value part ≡ true
part_front [] part h = h
part_front (d ∷ value) part h = rw h refl
