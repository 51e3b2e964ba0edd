-- Of an ASCII text the bytes may be compared: a lossy text has an ASCII character where the bytes have it.
use Rattle.std.proofs.Common.{◌≡◌, ◌+◌, ◌-◌, ◌<◌, ◌↔◌, ℕ, suc, true, List, [], ◌∷◌, ◌++◌, length, take, drop, refl, sym, ap, subst, ◌∙◌, arith, Option, Some, None, IsTrue, ◌==◌, append_assoc, append-nil, take-append-drop, length-append}
use Rattle.std.specs.Char.{encode_utf8}
use Rattle.std.specs.Str.{encode_utf8_all, IsAscii, bytes_eq}
use Rattle.std.specs.Str.Lossy.{utf8_lossy}
use Rattle.std.specs.List.{starts_with, ends_with}
use Rattle.std.proofs.lemmas.Bool.{lt-ltb}
use Rattle.std.proofs.lemmas.Bool.Decides.{Decides-eqb}
use Rattle.std.proofs.lemmas.Slice.Eq.{bytes_eq-Decides, starts_is, ends_is}
use Rattle.std.proofs.Math.Seq.{take-append_seam, drop-append_seam}
use lib.Utf8.{scalar, scalars}
use Rattle.bstr.specs.Utf8.{or_replacement, replacement, decoded, lossy_chars}
use Rattle.bstr.specs.Text.{Contains}
use Rattle.bstr.proofs.lemmas.PieceLemmas.{lossy_chars-step, lossy_chars-nil}
use Rattle.bstr.proofs.lemmas.SoundLemmas.{SpellsChar-decoded}
use Rattle.bstr.proofs.lemmas.EncodeLemmas.{lossy_chars-encode}
use Rattle.bstr.proofs.lemmas.LossyLemmas.{lossy_chars-front}
use Rattle.memchr.proofs.lemmas.MatchLemmas.{OccursAt-split, OccursAt-from_part}
use Rattle.tl_spec.specs.Select.LossyText.{IsSameText, BeginsWith, EndsWith, HasPart}
use Rattle.tl_selector.specs.LossyChars.{begins, has_part}
use Rattle.tl_selector.proofs.LossyTexts.{same_texts, same-eq, begins_texts, begins-front, begins-append}
use Rattle.tl_selector.proofs.LossyParts.{chars_behind, ends-from_chars, chars-from_ends, part_texts, part-some, part-bytes}

encode_ascii : (c : ℕ) → c < 128 → encode_utf8 c ≡ c ∷ []
unfolding encode_utf8
encode_ascii c low = rw (lt-ltb c 128 low) refl

scalar_ascii : (c : ℕ) → c < 128 → scalar c ≡ true
scalar_ascii c low = let l : c < 55296 = omega (arith, low) in rw (lt-ltb c 55296 l) refl

encode_all_ascii : (ps : List ℕ) → IsAscii ps → encode_utf8_all ps ≡ ps
encode_all_ascii [] h = refl
encode_all_ascii (p ∷ ps) h = rw (encode_ascii p (h 0), encode_all_ascii ps (λ i. h (suc i))) refl

scalars_ascii : (ps : List ℕ) → IsAscii ps → scalars ps ≡ true
scalars_ascii [] h = refl
scalars_ascii (p ∷ ps) h = rw (scalar_ascii p (h 0), scalars_ascii ps (λ i. h (suc i))) refl

chars_ascii : (ps : List ℕ) → IsAscii ps → lossy_chars ps ≡ ps
chars_ascii ps h = ap lossy_chars (sym (encode_all_ascii ps h)) ∙ lossy_chars-encode ps (scalars_ascii ps h)

no_chars : (bs : List ℕ) → lossy_chars bs ≡ [] → bs ≡ []
no_chars [] e = refl
no_chars (b ∷ bs) e = let some : 0 < length (b ∷ bs) = omega arith in let k = sym (lossy_chars-step (b ∷ bs) some) ∙ e in cc

-- an ASCII character at the front of a lossy text is the first byte
first_ascii : (c : ℕ) (bs rest : List ℕ) → c < 128 → lossy_chars bs ≡ c ∷ rest → (tail : List ℕ) × (bs ≡ c ∷ tail) × (lossy_chars tail ≡ rest)
first_ascii c [] rest low e = let k = sym lossy_chars-nil ∙ e in cc
first_ascii c (b ∷ bs) rest low e = by_char (decoded (b ∷ bs)).char refl
  where
    step : or_replacement (decoded (b ∷ bs)).char ∷ lossy_chars (drop (decoded (b ∷ bs)).size (b ∷ bs)) ≡ c ∷ rest
    step = let some : 0 < length (b ∷ bs) = omega arith in sym (lossy_chars-step (b ∷ bs) some) ∙ e

    by_char : (o : Option ℕ) → (decoded (b ∷ bs)).char ≡ o → (tail : List ℕ) × (b ∷ bs ≡ c ∷ tail) × (lossy_chars tail ≡ rest)
    by_char None n =
        let k : or_replacement None ∷ lossy_chars (drop (decoded (b ∷ bs)).size (b ∷ bs)) ≡ c ∷ rest = ap (λ o. or_replacement o ∷ lossy_chars (drop (decoded (b ∷ bs)).size (b ∷ bs))) (sym n) ∙ step in
        let is : replacement ≡ c = cc in absurd (omega (arith, is, low))
    by_char (Some y) n =
        let size = (decoded (b ∷ bs)).size in
        let k : y ∷ lossy_chars (drop size (b ∷ bs)) ≡ c ∷ rest = ap (λ o. or_replacement o ∷ lossy_chars (drop size (b ∷ bs))) (sym n) ∙ step in
        let is : y ≡ c = cc in
        let later : lossy_chars (drop size (b ∷ bs)) ≡ rest = cc in
        let spelled = (SpellsChar-decoded (b ∷ bs) y n).bytes in
        (drop size (b ∷ bs), spelled ∙ ap (λ z. z ++ drop size (b ∷ bs)) (ap encode_utf8 is ∙ encode_ascii c low), later)

-- the same of an ASCII text
front_ascii : (ps bs rest : List ℕ) → IsAscii ps → lossy_chars bs ≡ ps ++ rest → (tail : List ℕ) × (bs ≡ ps ++ tail) × (lossy_chars tail ≡ rest)
front_ascii [] bs rest h e = (bs, refl, e)
front_ascii (p ∷ ps) bs rest h e =
    let one = first_ascii p bs (ps ++ rest) (h 0) e in
    let more = front_ascii ps one.0 rest (λ i. h (suc i)) one.2 in
    (more.0, one.1 ∙ ap (λ z. p ∷ z) more.1, more.2)

cut_front : (n : ℕ) (bs front behind : List ℕ) → drop n bs ≡ front ++ behind → bs ≡ (take n bs ++ front) ++ behind
cut_front n bs front behind e = sym (take-append-drop n bs) ∙ ap (λ z. take n bs ++ z) e ∙ sym (append_assoc (take n bs) front behind)

-- the bytes of the characters behind some
bytes_behind : (xs zs bs : List ℕ) → lossy_chars bs ≡ xs ++ zs → (front : List ℕ) × (behind : List ℕ) × (bs ≡ front ++ behind) × (lossy_chars behind ≡ zs)
bytes_behind [] zs bs e = ([], bs, refl, e)
bytes_behind (x ∷ xs) zs [] e = let k = sym lossy_chars-nil ∙ e in cc
bytes_behind (x ∷ xs) zs (b ∷ bs) e =
    let some : 0 < length (b ∷ bs) = omega arith in
    let size = (decoded (b ∷ bs)).size in
    let step = sym (lossy_chars-step (b ∷ bs) some) ∙ e in
    let later : lossy_chars (drop size (b ∷ bs)) ≡ xs ++ zs = cc in
    let r = bytes_behind xs zs (drop size (b ∷ bs)) later in
    (take size (b ∷ bs) ++ r.0, r.1, cut_front size (b ∷ bs) r.0 r.1 r.2, r.3)

module _ (a p : List ℕ) (ascii : IsAscii p) where
  pub same_ascii : (IsTrue (bytes_eq a p)) ↔ (IsSameText a p)
  same_ascii = (
    λ h. let e : a ≡ p = (bytes_eq-Decides a p).0 h in ap utf8_lossy e,
    λ h. let chars = same-eq (lossy_chars a) (lossy_chars p) ((same_texts a p).1 h) ∙ chars_ascii p ascii ∙ sym (append-nil p) in
        let r = front_ascii p a [] ascii chars in
        let e : a ≡ p = r.1 ∙ ap (λ z. p ++ z) (no_chars r.0 r.2) ∙ append-nil p in
        (bytes_eq-Decides a p).1 e,
  )

  chars_front : (rest : List ℕ) → lossy_chars (p ++ rest) ≡ lossy_chars p ++ lossy_chars rest
  chars_front rest = ap (λ z. lossy_chars (z ++ rest)) (sym (encode_all_ascii p ascii)) ∙ lossy_chars-front p rest (scalars_ascii p ascii) ∙ ap (λ z. z ++ lossy_chars rest) (sym (chars_ascii p ascii))

  pub begins_ascii : (IsTrue (starts_with ◌==◌ a p)) ↔ (BeginsWith a p)
  begins_ascii =
      let decides = starts_is Decides-eqb a p (starts_with ◌==◌ a p) refl in (
        λ h. let e = ap lossy_chars (decides.0 h) ∙ chars_front (drop (length p) a) in
            (begins_texts a p).0 (subst (λ z. begins z (lossy_chars p) ≡ true) (sym e) (begins-append (lossy_chars p) (lossy_chars (drop (length p) a)))),
        λ h. let r = begins-front (lossy_chars a) (lossy_chars p) ((begins_texts a p).1 h) in
            let s = front_ascii p a r.0 ascii (r.1 ∙ ap (λ z. z ++ r.0) (chars_ascii p ascii)) in
            decides.1 s.0 s.1,
      )

  pub ends_ascii : (IsTrue (ends_with ◌==◌ a p)) ↔ (EndsWith a p)
  ends_ascii =
      let decides = ends_is Decides-eqb a p (ends_with ◌==◌ a p) refl in
      let front = take (length a - length p) a in (
        λ h. let e = ap lossy_chars (decides.0 h ∙ ap (λ z. front ++ z) (sym (encode_all_ascii p ascii))) ∙ chars_behind front p (scalars_ascii p ascii) in
            ends-from_chars a p (lossy_chars front) (e ∙ ap (λ z. lossy_chars front ++ z) (sym (chars_ascii p ascii))),
        λ h. let r = chars-from_ends a p h in
            let b = bytes_behind r.0 p a (r.1 ∙ ap (λ z. r.0 ++ z) (chars_ascii p ascii)) in
            let s = front_ascii p b.1 [] ascii (b.3 ∙ sym (append-nil p)) in
            decides.1 b.0 (b.2 ∙ ap (λ z. b.0 ++ z) (s.1 ∙ ap (λ z. p ++ z) (no_chars s.0 s.2) ∙ append-nil p)),
      )

  pub part_ascii : (Contains a p) ↔ (HasPart a p)
  part_ascii = (
    λ h. let behind = drop (h.0 + length p) a in
        let e : a ≡ take h.0 a ++ (encode_utf8_all p ++ behind) =
        sym (take-append-drop h.0 a) ∙ ap (λ z. take h.0 a ++ z) (OccursAt-split a p h.0 h.1 ∙ ap (λ z. z ++ behind) (sym (encode_all_ascii p ascii))) in
        (part_texts a p).0 (subst (λ z. has_part (lossy_chars a) z ≡ true) (sym (chars_ascii p ascii)) (part-bytes a (take h.0 a) p behind (scalars_ascii p ascii) e)),
    λ h. let r = part-some (lossy_chars a) (lossy_chars p) ((part_texts a p).1 h) in
        let b = bytes_behind r.0 (lossy_chars p ++ r.1) a r.2 in
        let s = front_ascii p b.1 r.1 ascii (b.3 ∙ ap (λ z. z ++ r.1) (chars_ascii p ascii)) in
        let e : a ≡ b.0 ++ (p ++ s.0) = b.2 ∙ ap (λ z. b.0 ++ z) s.1 in
        let len : length a ≡ length b.0 + (length p + length s.0) = ap length e ∙ length-append b.0 (p ++ s.0) ∙ ap (λ n. length b.0 + n) (length-append p s.0) in
        let at : take (length p) (drop (length b.0) a) ≡ p = ap (λ z. take (length p) (drop (length b.0) z)) e ∙ ap (take (length p)) (drop-append_seam b.0 (p ++ s.0)) ∙ take-append_seam p s.0 in
        (length b.0, OccursAt-from_part a p (length b.0) (omega (arith, len)) at),
  )
