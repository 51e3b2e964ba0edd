-- Texts in UTF-8, one character after the other.
use Rattle.std.proofs.Common.{◌≡◌, ℕ, ◌<◌, Bool, true, false, ◌==◌, nat_le, nat_lt, List, [], ◌∷◌, ◌++◌, IsUtf8, refl, ap, sym, subst, inl, inr, arith, append_assoc, le-leb, eqb-true, ltb-true}
use Rattle.std.specs.List.{list_all}
use Rattle.std.specs.Str.{chars, is_utf8}
use Rattle.std.specs.Char.{IsScalar, encode_utf8}
use Rattle.std.proofs.lemmas.Bool.{and_parts, cases_Bool}
use Rattle.std.proofs.lemmas.Str.{IsUtf8-append, IsUtf8-encode, IsUtf8-from_ascii, IsUtf8-from_is_utf8}
use Rattle.std.proofs.lemmas.Str.Ascii.{IsAscii-cons, IsAscii-nil}
use Rattle.std.proofs.str.Laws.{Shape, of1, of2, of3, of4, shape}
use lib.Utf8.{encode, encodes, scalar, scalars, scalar_cases}
use Rattle.tl_html_spec.specs.HtmlTokenizer.{char_of, replacement}

abbrev pub is_high : ℕ → Bool
is_high b = nat_le 128 b

-- a byte, and those that are one character with it
pub record IsCharacter (b : ℕ) (w : List ℕ) : Type 0 where
  pub text : IsUtf8 (b ∷ w)
  pub alone : b < 128 → w ≡ []
  pub high : list_all is_high w ≡ true

abbrev FirstByte : List ℕ → Type 0
FirstByte s = (b : ℕ) × (w : List ℕ) × (s ≡ b ∷ w) × IsCharacter b w

first_byte : (c : ℕ) → IsScalar c → Shape c → FirstByte (encode_utf8 c)
first_byte c s (of1 h e) = (c, [], e, record { text = subst IsUtf8 e (IsUtf8-encode c s); alone = λ _. refl; high = refl })
first_byte c s (of2 x y l u f q e) =
    (x, y ∷ [], e, record { text = subst IsUtf8 e (IsUtf8-encode c s); alone = λ h. absurd (omega arith); high = rw (le-leb 128 y f.0) refl })
first_byte c s (of3 x y z l u f g q e) =
    (x, y ∷ z ∷ [], e, record { text = subst IsUtf8 e (IsUtf8-encode c s); alone = λ h. absurd (omega arith); high = rw (le-leb 128 y f.0, le-leb 128 z g.0) refl })
first_byte c s (of4 x y z v l u f g k q e) = (
  x,
  y ∷ z ∷ v ∷ [],
  e,
  record {
    text = subst IsUtf8 e (IsUtf8-encode c s);
    alone = λ h. absurd (omega arith);
    high = rw (le-leb 128 y f.0, le-leb 128 z g.0, le-leb 128 v k.0) refl;
  },
)

abbrev Step : (List ℕ → Type 0) → Type 0
Step P = (b : ℕ) (w rest : List ℕ) → IsCharacter b w → IsUtf8 rest → P rest → P (b ∷ (w ++ rest))

of_codes : (P : List ℕ → Type 0) → P [] → Step P → (cs : List ℕ) → scalars cs ≡ true → P (encodes cs)
of_codes P none more [] h = none
of_codes P none more (c ∷ cs) h =
    let p = and_parts (scalar c) (scalars cs) h in
    let q = first_byte c p.0 (shape c (scalar_cases c p.0)) in
    subst P (sym (ap (λ x. x ++ encodes cs) q.2)) (more q.0 q.1 (encodes cs) q.3 (cs, (p.1, refl)) (of_codes P none more cs p.1))

-- what holds of no text, and of a text with a character more in front
pub by_characters : (P : List ℕ → Type 0) → P [] → Step P → (s : List ℕ) → IsUtf8 s → P s
by_characters P none more s h = subst P h.1.1 (of_codes P none more h.0 h.1.0)

-- bytes below 128

pub one_byte : (b : ℕ) → b < 128 → IsUtf8 (b ∷ [])
one_byte b h = IsUtf8-from_ascii (b ∷ []) (IsAscii-cons b [] h IsAscii-nil)

abbrev pub is_low : ℕ → Bool
is_low b = nat_lt b 128

pub all_low : (s : List ℕ) → list_all is_low s ≡ true → IsUtf8 s
all_low [] h = ([], (refl, refl))
all_low (b ∷ s) h =
    let p = and_parts (is_low b) (list_all is_low s) h in
    IsUtf8-append (b ∷ []) s (one_byte b (ltb-true b 128 p.0)) (all_low s p.1)

-- a byte that is one of these is a character by itself
pub at_byte : (b c : ℕ) (w : List ℕ) → IsCharacter b w → (b == c) ≡ true → nat_lt c 128 ≡ true → w ≡ []
at_byte b c w a y l =
    let is = eqb-true b c y in
    let low = ltb-true c 128 l in
    a.alone (omega arith)

-- a high byte is none of the others
pub no_byte : (b c : ℕ) → is_high b ≡ true → nat_lt c 128 ≡ true → (b == c) ≡ false
no_byte b c h l = grind (arith)

-- the character that stands for NUL

replacement_text : IsUtf8 replacement
unfolding is_utf8 chars encode
replacement_text = IsUtf8-from_is_utf8 replacement refl

pub char_text : (b : ℕ) (w : List ℕ) → IsCharacter b w → IsUtf8 (char_of b ++ w)
char_text b w a = elim (cases_Bool (b == 0)) [
  | inl y ↦ rw y (subst (λ v. IsUtf8 (replacement ++ v)) (sym (at_byte b 0 w a y refl)) replacement_text)
  | inr n ↦ rw n a.text
]

-- behind a text
pub char_after : (s : List ℕ) (b : ℕ) (w : List ℕ) → IsUtf8 s → IsCharacter b w → IsUtf8 ((s ++ char_of b) ++ w)
char_after s b w h a = subst IsUtf8 (sym (append_assoc s (char_of b) w)) (IsUtf8-append s (char_of b ++ w) h (char_text b w a))
