-- The words of a text by its bytes, and by its characters.
use Rattle.std.proofs.Common.{◌≡◌, ◌<◌, ◌≤◌, ◌+◌, ◌/◌, ◌%◌, ◌↔◌, ◌++◌, ◌∷◌, [], ℕ, zero, suc, List, true, false, length, map, sym, ap, ◌∙◌, arith, inl, inr, subst, refl, slice_index_or}
use Rattle.std.specs.Char.{is_whitespace, encode_utf8}
use Rattle.std.specs.List.{AllByRecursion, Contains, slice_split, onto_first}
use Rattle.std.specs.Str.{IsUtf8, encode_utf8_all}
use Rattle.std.proofs.lemmas.Bool.{false≢true, cases_Bool, and_parts, and_from, cond-true, cond-false}
use Rattle.std.proofs.lemmas.Bool.Decides.{nat_tests}
use Rattle.std.proofs.lemmas.List.Elements.{All-contains, All-from_recursion}
use Rattle.std.proofs.lemmas.List.Splits.{length-slice_split, slice_split-cons_yes, slice_split-cons_no}
use lib.Dec.{ltb}
use lib.Utf8.{scalar, scalars}
use Rattle.bstr.specs.Utf8.{lossy_chars}
use Rattle.bstr.proofs.lemmas.EncodeLemmas.{lossy_chars-encode}
use Rattle.tl_css.specs.Bytes.{is_white}

-- A list under a function

module _ (f : List ℕ → List ℕ) where
  pub to_map : (ps : List (List ℕ)) (p : List ℕ) → Contains ps p → Contains (map f ps) (f p)
  to_map [] p h = absurd (omega (arith, h.1))
  to_map (q ∷ ps) p h = at h.0 h.1 h.2 (to_map ps p)
    where
      at : (k : ℕ) → k < length (q ∷ ps) → slice_index_or (q ∷ ps) k p ≡ p → (Contains ps p → Contains (map f ps) (f p)) → Contains (map f (q ∷ ps)) (f p)
      at zero w e more = (0, omega arith, ap f e)
      at (suc k) w e more = let c = more (k, omega (arith, w), e) in (suc c.0, omega (arith, c.1), c.2)

  pub from_map : (ps : List (List ℕ)) (y : List ℕ) → Contains (map f ps) y → (p : List ℕ) × Contains ps p × (f p ≡ y)
  from_map [] y h = absurd (omega (arith, h.1))
  from_map (q ∷ ps) y h = at h.0 h.1 h.2 (from_map ps y)
    where
      at : (k : ℕ) → k < length (map f (q ∷ ps)) → slice_index_or (map f (q ∷ ps)) k y ≡ y
          → (Contains (map f ps) y → (p : List ℕ) × Contains ps p × (f p ≡ y)) → (p : List ℕ) × Contains (q ∷ ps) p × (f p ≡ y)
      at zero w e more = (q, (0, omega arith, refl), e)
      at (suc k) w e more = let c = more (k, omega (arith, w), e) in (c.0, (suc c.1.0, omega (arith, c.1.1), c.1.2), c.2)

-- White space

high : (b : ℕ) → 128 ≤ b → is_white b ≡ false
high b h = grind (arith, nat_tests)

low : (c : ℕ) → is_white c ≡ true → c < 128
low c h = grind (arith, nat_tests)

white_is : (c : ℕ) → is_white c ≡ true → is_whitespace c ≡ true
white_is c h = grind (arith, nat_tests)

-- a term of the type given
abbrev by : (A : Type 0) → A → A
by A a = a

ascii : (c : ℕ) → c < 128 → encode_utf8 c ≡ c ∷ []
unfolding encode_utf8
ascii c h = cond-true _ _ _ (by (ltb c 128 ≡ true) (grind (arith, nat_tests)))

abbrev AreDark : List ℕ → Type 0
AreDark bytes = AllByRecursion (λ b. is_white b ≡ false) bytes

-- the bytes of a character that is no white space are none
dark : (c : ℕ) → is_white c ≡ false → AreDark (encode_utf8 c)
unfolding encode_utf8
dark c other = elim (cases_Bool (ltb c 128)) [
  | inl one ↦ subst AreDark (sym (cond-true _ _ _ one)) (other, tt)
  | inr n1 ↦ subst AreDark (sym (cond-false _ _ _ n1)) (elim (cases_Bool (ltb c 2048)) [
    | inl two ↦ subst AreDark (sym (cond-true _ _ _ two)) (high (192 + c / 64) (omega arith), (high (128 + c % 64) (omega arith), tt))
    | inr n2 ↦ subst AreDark (sym (cond-false _ _ _ n2)) (elim (cases_Bool (ltb c 65536)) [
      | inl three ↦ subst AreDark (sym (cond-true _ _ _ three)) (high (224 + c / 4096) (omega arith), (high (128 + (c / 64) % 64) (omega arith), (high (128 + c % 64) (omega arith), tt)))
      | inr n3 ↦ subst AreDark (sym (cond-false _ _ _ n3)) (high (240 + c / 262144) (omega arith), (high (128 + (c / 4096) % 64) (omega arith), (high (128 + (c / 64) % 64) (omega arith), (high (128 + c % 64) (omega arith), tt))))
    ])
  ])
]

-- bytes before the first part
abbrev onto_front : List ℕ → List (List ℕ) → List (List ℕ)
onto_front [] ps = ps
onto_front (b ∷ bs) ps = onto_first b (onto_front bs ps)

split_front : (bs xs : List ℕ) → AreDark bs → slice_split is_white (bs ++ xs) ≡ onto_front bs (slice_split is_white xs)
split_front [] xs h = refl
split_front (b ∷ bs) xs h = slice_split-cons_no is_white b (bs ++ xs) h.0 ∙ ap (onto_first b) (split_front bs xs h.1)

front_first : (bs q : List ℕ) (qs : List (List ℕ)) → onto_front bs (q ∷ qs) ≡ (bs ++ q) ∷ qs
front_first [] q qs = refl
front_first (b ∷ bs) q qs = ap (onto_first b) (front_first bs q qs)

front_map : (c : ℕ) (ps : List (List ℕ)) → 0 < length ps → onto_front (encode_utf8 c) (map encode_utf8_all ps) ≡ map encode_utf8_all (onto_first c ps)
front_map c [] h = absurd (omega (arith, h))
front_map c (q ∷ qs) h = front_first (encode_utf8 c) (encode_utf8_all q) (map encode_utf8_all qs)

abbrev AreTame : List ℕ → Type 0
AreTame cs = (c : ℕ) → Contains cs c → is_whitespace c ≡ true → is_white c ≡ true

later : (c d : ℕ) (cs : List ℕ) → Contains cs d → Contains (c ∷ cs) d
later c d cs h = (suc h.0, omega (arith, h.1), h.2)

-- the words by bytes are those by characters
split_chars : (cs : List ℕ) → AreTame cs → slice_split is_white (encode_utf8_all cs) ≡ map encode_utf8_all (slice_split is_whitespace cs)
split_chars [] h = refl
split_chars (c ∷ cs) h =
    let parts = slice_split is_whitespace cs in
    let rest = split_chars cs (λ d k. h d (later c d cs k)) in
    elim (cases_Bool (is_whitespace c)) [
      | inl y ↦
          (let white = h c (0, omega arith, refl) y in
          ap (λ (bs : List ℕ). slice_split is_white (bs ++ encode_utf8_all cs)) (ascii c (low c white))
          ∙ slice_split-cons_yes is_white c (encode_utf8_all cs) white
          ∙ ap (λ (ps : List (List ℕ)). [] ∷ ps) rest
          ∙ ap (map encode_utf8_all) (sym (slice_split-cons_yes is_whitespace c cs y)))
      | inr n ↦
          (let other : is_white c ≡ false = elim (cases_Bool (is_white c)) [ inl w ↦ absurd (false≢true (sym n ∙ white_is c w)) | inr m ↦ m ] in
          split_front (encode_utf8 c) (encode_utf8_all cs) (dark c other)
          ∙ ap (onto_front (encode_utf8 c)) rest
          ∙ front_map c parts (omega (arith, length-slice_split is_whitespace cs))
          ∙ ap (map encode_utf8_all) (sym (slice_split-cons_no is_whitespace c cs n)))
    ]

abbrev AreScalars : List (List ℕ) → Type 0
AreScalars ps = AllByRecursion (λ p. scalars p ≡ true) ps

scalars_onto : (c : ℕ) (ps : List (List ℕ)) → scalar c ≡ true → AreScalars ps → AreScalars (onto_first c ps)
scalars_onto c [] one h = (and_from (scalar c) true one refl, tt)
scalars_onto c (p ∷ ps) one h = (and_from (scalar c) (scalars p) one h.0, h.1)

split_scalars : (cs : List ℕ) → scalars cs ≡ true → AreScalars (slice_split is_whitespace cs)
split_scalars [] h = (refl, tt)
split_scalars (c ∷ cs) h =
    let both = and_parts (scalar c) (scalars cs) h in
    elim (cases_Bool (is_whitespace c)) [
      | inl y ↦ subst AreScalars (sym (slice_split-cons_yes is_whitespace c cs y)) (refl, split_scalars cs both.1)
      | inr n ↦ subst AreScalars (sym (slice_split-cons_no is_whitespace c cs n)) (scalars_onto c (slice_split is_whitespace cs) both.0 (split_scalars cs both.1))
    ]

-- a text is among the words of another by bytes where it is by characters
pub among_words : (own value : List ℕ) → IsUtf8 own → IsUtf8 value → AreTame (lossy_chars own)
    → Contains (slice_split is_white own) value ↔ Contains (slice_split is_whitespace (lossy_chars own)) (lossy_chars value)
among_words own value u v tame =
    let chars : lossy_chars own ≡ u.0 = ap lossy_chars (sym u.1.1) ∙ lossy_chars-encode u.0 u.1.0 in
    let said : lossy_chars value ≡ v.0 = ap lossy_chars (sym v.1.1) ∙ lossy_chars-encode v.0 v.1.0 in
    let parts = slice_split is_whitespace u.0 in
    let words : slice_split is_white own ≡ map encode_utf8_all parts = ap (slice_split is_white) (sym u.1.1) ∙ split_chars u.0 (subst AreTame chars tame) in
    let texts : slice_split is_whitespace (lossy_chars own) ≡ parts = ap (slice_split is_whitespace) chars in (
      λ h.
          let m = from_map encode_utf8_all parts value (subst (λ (ps : List (List ℕ)). Contains ps value) words h) in
          let are : scalars m.0 ≡ true = All-contains (λ p. scalars p ≡ true) parts m.0 (All-from_recursion (λ p. scalars p ≡ true) parts (split_scalars u.0 u.1.0)) m.1 in
          let is : lossy_chars value ≡ m.0 = ap lossy_chars (sym m.2) ∙ lossy_chars-encode m.0 are in
          subst (λ (ps : List (List ℕ)). Contains ps (lossy_chars value)) (sym texts) (subst (λ (p : List ℕ). Contains parts p) (sym is) m.1),
      λ h.
          let k : Contains parts v.0 = subst (λ (p : List ℕ). Contains parts p) said (subst (λ (ps : List (List ℕ)). Contains ps (lossy_chars value)) texts h) in
          let m = to_map encode_utf8_all parts v.0 k in
          subst (λ (ps : List (List ℕ)). Contains ps value) (sym words) (subst (λ (p : List ℕ). Contains (map encode_utf8_all parts) p) v.1.1 m),
    )
