-- A tag in the place of another, and texts in titles.
use Rattle.std.proofs.Common.{◌≡◌, ℕ, true, false, not, ◌==◌, List, [], ◌∷◌, ◌++◌, map, Some, refl, ap, sym, subst, ◌∙◌, inl, inr, append-nil}
use Rattle.std.specs.Char.{encode_utf8}
use Rattle.std.proofs.lemmas.Bool.{and_parts, cases_Bool, eqb-true, not-true}
use Rattle.tl_html_spec.specs.HtmlTokenizer.{Character, HtmlToken, State, at_end, raw, rcdata}
use Rattle.tl_html_spec.specs.Reader.{Reader, Rest, after, at, emitted, is_at_rest, read, tokens_of}
use Rattle.tl_html_spec.specs.Pieces.{AreRead, Piece, first_byte, piece, read_before}
use Rattle.tl_patch_spec.specs.Markup.{is_without_nul, text_byte_markup, text_markup}
use Rattle.tl_html_spec.proofs.Cutting.{tokens_end}
use Rattle.tl_patch_spec.proofs.Markup.{rest_ends}
use Rattle.tl_patch_spec.proofs.Patched.{before_read}
use Rattle.tl_html_spec.proofs.Resting.{strict_rest}
use Rattle.tl_patch_spec.proofs.Writing.{Reads, closed_before, then_reads}

-- a text that comes to a state of rest reads so at the end of a page
pub reads_at_end : (s t : State) (x : List ℕ) (ts : List HtmlToken) → Reads s x ts t → is_at_rest t ≡ true → tokens_of (at s) x ≡ ts
reads_at_end s t x ts h r =
    sym (tokens_end (at s) x)
    ∙ ap (λ us. us ++ at_end (after (at s) x).state) h.tokens_are
    ∙ ap (λ (q : Reader). ts ++ at_end q.state) h.state_is
    ∙ ap (λ us. ts ++ us) (rest_ends t r)
    ∙ append-nil ts

pub next_byte : (s : State) (x y : List ℕ) (rest : Rest) → read_before s x (first_byte y) ≡ Some rest → (b : ℕ) × (first_byte y ≡ Some b)
next_byte s x [] rest e = cc
next_byte s x (b ∷ y) rest e = (b, refl)

-- pieces that alone come to the same state of rest may stand for one another
pub same_place : (z t : State) (x y : Piece) (xs : List Piece) → y.rest ≡ x.rest → Reads z x.bytes x.tokens t → Reads z y.bytes y.tokens t →
    is_at_rest t ≡ true → AreRead z (x ∷ xs) → AreRead z (y ∷ xs)
same_place z t x y [] e old new r h = (e ∙ h.0, sym (reads_at_end z t y.bytes y.tokens new r))
same_place z t x y (q ∷ more) e old new r h =
    let b = next_byte z x.bytes q.bytes h.0 h.2 in
    let rest : State → List HtmlToken → Rest = λ state tokens. record { state = state; emits = tokens } in
    let was : Some (rest t x.tokens) ≡ Some h.0 = sym (ap (read_before z x.bytes) b.1 ∙ closed_before z t x.bytes x.tokens b.0 old (strict_rest t b.0 r)) ∙ h.2 in
    let same : rest t x.tokens ≡ h.0 = cc in (
      rest t y.tokens,
      e ∙ h.1,
      ap (read_before z y.bytes) b.1 ∙ closed_before z t y.bytes y.tokens b.0 new (strict_rest t b.0 r),
      refl,
      subst (λ (p : Rest). AreRead p.state (q ∷ more)) (sym same) h.4,
    )

pub tag_in_place : (z t : State) (x y : Piece) (xs : List Piece) → y.rest ≡ x.rest →
    emitted (at z) x.bytes ≡ x.tokens → after (at z) x.bytes ≡ at t → emitted (at z) y.bytes ≡ y.tokens → after (at z) y.bytes ≡ at t →
    is_at_rest t ≡ true → AreRead z (x ∷ xs) → AreRead z (y ∷ xs)
tag_in_place z t x y xs e a b c d r h =
    same_place z t x y xs e (record { tokens_are = a; state_is = b }) (record { tokens_are = c; state_is = d }) r h

-- titles and text areas

title_byte_reads : (name : List ℕ) (b : ℕ) → (b == 0) ≡ false → Reads (raw (rcdata name)) (text_byte_markup b) (Character b ∷ []) (raw (rcdata name))
unfolding read encode_utf8
title_byte_reads name b z = elim (cases_Bool (b == 13)) [
  | inl y ↦ rw (eqb-true b 13 y) (record { tokens_are = refl; state_is = refl })
  | inr n ↦ elim (cases_Bool (b == 38)) [
    | inl y ↦ rw (eqb-true b 38 y) (record { tokens_are = refl; state_is = refl })
    | inr m ↦ elim (cases_Bool (b == 60)) [
      | inl y ↦ rw (eqb-true b 60 y) (record { tokens_are = refl; state_is = refl })
      | inr l ↦ record { tokens_are = simp (n, m, l, z); state_is = simp (n, m, l, z) }
    ]
  ]
]

title_reads : (name text : List ℕ) → is_without_nul text ≡ true → Reads (raw (rcdata name)) (text_markup text) (map Character text) (raw (rcdata name))
title_reads name [] h = record { tokens_are = refl; state_is = refl }
title_reads name (b ∷ text) h =
    let p = and_parts (not (b == 0)) (is_without_nul text) h in
    then_reads (raw (rcdata name)) (raw (rcdata name)) (raw (rcdata name)) (text_byte_markup b) (text_markup text) (Character b ∷ []) (map Character text)
    (title_byte_reads name b (not-true (b == 0) p.0)) (title_reads name text p.1)

pub title_closed : (name text : List ℕ) (b : ℕ) → is_without_nul text ≡ true →
    read_before (raw (rcdata name)) (text_markup text) (Some b) ≡ Some (record { state = raw (rcdata name); emits = map Character text })
title_closed name text b h =
    closed_before (raw (rcdata name)) (raw (rcdata name)) (text_markup text) (map Character text) b (title_reads name text h) (strict_rest (raw (rcdata name)) b refl)

-- a text in a title, before what ends it
pub title_before : (name text : List ℕ) (b : ℕ) (x : Piece) (xs : List Piece) → is_without_nul text ≡ true → first_byte x.bytes ≡ Some b →
    AreRead (raw (rcdata name)) (x ∷ xs) → AreRead (raw (rcdata name)) (piece (raw (rcdata name)) (text_markup text) (map Character text) ∷ x ∷ xs)
title_before name text b x xs n f h =
    before_read (raw (rcdata name)) (raw (rcdata name)) (text_markup text) (map Character text) b x xs (title_closed name text b n) f h
