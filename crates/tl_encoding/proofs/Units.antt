-- The bytes of UTF-16 of characters are read as these.
use Rattle.std.proofs.Common.{◌≡◌, ◌∙◌, ℕ, ◌+◌, ◌-◌, ◌/◌, ◌%◌, ◌<◌, ◌≤◌, true, false, List, [], ◌∷◌, ◌++◌, Option, Some, None, ap, append-nil, arith, encode_utf8, encode_utf8_all, inl, inr, nat_lt, refl, sym}
use Rattle.std.proofs.Math.Nat.{div-lt_iff_lt-mul, mod-lt}
use Rattle.std.proofs.Math.Utf8.{scalar, scalar_cases, scalars}
use Rattle.std.proofs.lemmas.Option.{none-some, same_Some}
use Rattle.std.proofs.lemmas.Bool.{and_from, and_left, and_parts, and_right, cases_Bool, le-leb, le-ltb, lt-leb, lt-ltb, ltb-false}
use Rattle.std.proofs.lemmas.Nat.{div-add-mod'}
use Rattle.std.specs.Char.Utf16.{is_high_surrogate, is_low_surrogate, surrogate_pair_char}
use Rattle.tl_encoding.specs.Encoders.{appended, encoded, unit_bytes, units_bytes}
use Rattle.tl_encoding.specs.Utf16.{start, utf_16, utf_16_wrong}
use Rattle.tl_encoding.specs.declared.encoding.ByteOrder.{ByteOrder}
use Rattle.tl_encoding.specs.declared.encoding.ByteOrder.TheVariants.{BigEndian, LittleEndian}
use Rattle.tl_encoding.specs.declared.encoding.Encoding.TheVariants.{Utf16}

-- a code unit that is no surrogate
pub one_read : (order : ByteOrder) (u : ℕ) (s : List ℕ) → is_high_surrogate u ≡ false → is_low_surrogate u ≡ false
    → utf_16 order start (unit_bytes order u ++ s) ≡ encode_utf8 u ++ utf_16 order start s
one_read BigEndian u s high low = rw (div-add-mod' u 256, high, low, append-nil (encode_utf8 u)) refl
one_read LittleEndian u s high low = rw (div-add-mod' u 256, high, low, append-nil (encode_utf8 u)) refl

one_right : (order : ByteOrder) (u at : ℕ) (s : List ℕ) → is_high_surrogate u ≡ false → is_low_surrogate u ≡ false
    → utf_16_wrong order start at (unit_bytes order u ++ s) ≡ utf_16_wrong order start (at + 1 + 1) s
one_right BigEndian u at s high low = rw (div-add-mod' u 256, high, low) refl
one_right LittleEndian u at s high low = rw (div-add-mod' u 256, high, low) refl

-- two that are a pair
pub two_read : (order : ByteOrder) (u v : ℕ) (s : List ℕ) → is_high_surrogate u ≡ true → is_low_surrogate u ≡ false → is_low_surrogate v ≡ true → is_high_surrogate v ≡ false
    → utf_16 order start ((unit_bytes order u ++ unit_bytes order v) ++ s) ≡ encode_utf8 (surrogate_pair_char u v) ++ utf_16 order start s
two_read BigEndian u v s high not_low low not_high = rw (div-add-mod' u 256, high, div-add-mod' v 256, low, not_high, append-nil (encode_utf8 (surrogate_pair_char u v))) refl
two_read LittleEndian u v s high not_low low not_high = rw (div-add-mod' u 256, high, div-add-mod' v 256, low, not_high, append-nil (encode_utf8 (surrogate_pair_char u v))) refl

two_right : (order : ByteOrder) (u v at : ℕ) (s : List ℕ) → is_high_surrogate u ≡ true → is_low_surrogate u ≡ false → is_low_surrogate v ≡ true → is_high_surrogate v ≡ false
    → utf_16_wrong order start at ((unit_bytes order u ++ unit_bytes order v) ++ s) ≡ utf_16_wrong order start (at + 1 + 1 + 1 + 1) s
two_right BigEndian u v at s high not_low low not_high = rw (div-add-mod' u 256, high, not_low, div-add-mod' v 256, low, not_high) refl
two_right LittleEndian u v at s high not_low low not_high = rw (div-add-mod' u 256, high, not_low, div-add-mod' v 256, low, not_high) refl

-- the code units of a character
no_high : (p : ℕ) → scalar p ≡ true → is_high_surrogate p ≡ false
no_high p is = elim (scalar_cases p is) [
  | inl low ↦ and_left _ _ (lt-leb 0xD800 p low)
  | inr high ↦ and_right _ _ (le-ltb p 0xDC00 (omega (arith, high.0)))
]

no_low : (p : ℕ) → scalar p ≡ true → is_low_surrogate p ≡ false
no_low p is = elim (scalar_cases p is) [
  | inl low ↦ and_left _ _ (lt-leb 0xDC00 p (omega (arith, low)))
  | inr high ↦ and_right _ _ (le-ltb p 0xE000 high.0)
]

abbrev pub upper : ℕ → ℕ
upper p = 0xD800 + (p - 0x10000) / 0x400

abbrev pub lower : ℕ → ℕ
lower p = 0xDC00 + (p - 0x10000) % 0x400

bounded : (p : ℕ) → scalar p ≡ true → p < 0x110000
bounded p is = elim (scalar_cases p is) [
  | inl low ↦ omega (arith, low)
  | inr high ↦ high.1
]

few : (p : ℕ) → scalar p ≡ true → (p - 0x10000) / 0x400 < 0x400
few p is = (div-lt_iff_lt-mul {k = 0x400} {x = p - 0x10000} {y = 0x400} (omega arith)).1 (omega (arith, bounded p is))

left : (p : ℕ) → (p - 0x10000) % 0x400 < 0x400
left p = mod-lt (p - 0x10000) {m = 0x400} (omega arith)

upper_high : (p : ℕ) → scalar p ≡ true → is_high_surrogate (upper p) ≡ true
upper_high p is = and_from _ _ (le-leb 0xD800 (upper p) (omega arith)) (lt-ltb (upper p) 0xDC00 (omega (arith, few p is)))

upper_no_low : (p : ℕ) → scalar p ≡ true → is_low_surrogate (upper p) ≡ false
upper_no_low p is = and_left _ _ (lt-leb 0xDC00 (upper p) (omega (arith, few p is)))

lower_low : (p : ℕ) → is_low_surrogate (lower p) ≡ true
lower_low p = and_from _ _ (le-leb 0xDC00 (lower p) (omega arith)) (lt-ltb (lower p) 0xE000 (omega (arith, left p)))

lower_no_high : (p : ℕ) → is_high_surrogate (lower p) ≡ false
lower_no_high p = and_right _ _ (le-ltb (lower p) 0xDC00 (omega arith))

paired : (p : ℕ) → 0x10000 ≤ p → surrogate_pair_char (upper p) (lower p) ≡ p
paired p above =
    let a : upper p - 0xD800 ≡ (p - 0x10000) / 0x400 = omega arith in
    let b : lower p - 0xDC00 ≡ (p - 0x10000) % 0x400 = omega arith in
    rw (a, b) (omega (arith, div-add-mod' (p - 0x10000) 0x400, above))

units_read : (order : ByteOrder) (p : ℕ) (s : List ℕ) → scalar p ≡ true → utf_16 order start (units_bytes order p ++ s) ≡ encode_utf8 p ++ utf_16 order start s
units_read order p s is = elim (cases_Bool (nat_lt p 0x10000)) [
  | inl y ↦ rw y (one_read order p s (no_high p is) (no_low p is))
  | inr n ↦ rw n (two_read order (upper p) (lower p) s (upper_high p is) (upper_no_low p is) (lower_low p) (lower_no_high p)
      ∙ ap (λ c. encode_utf8 c ++ utf_16 order start s) (paired p (ltb-false p 0x10000 n)))
]

units_right : (order : ByteOrder) (p at : ℕ) (s : List ℕ) → scalar p ≡ true → (n : ℕ) × (utf_16_wrong order start at (units_bytes order p ++ s) ≡ utf_16_wrong order start n s)
units_right order p at s is = elim (cases_Bool (nat_lt p 0x10000)) [
  | inl y ↦ (at + 1 + 1, rw y (one_right order p at s (no_high p is) (no_low p is)))
  | inr n ↦ (at + 1 + 1 + 1 + 1, rw n (two_right order (upper p) (lower p) at s (upper_high p is) (upper_no_low p is) (lower_low p) (lower_no_high p)))
]

rest_of : (own : List ℕ) (rest : Option (List ℕ)) (bytes : List ℕ) → appended (Some own) rest ≡ Some bytes → (s : List ℕ) × ((rest ≡ Some s) × (own ++ s ≡ bytes))
rest_of own None bytes e = absurd (none-some bytes e)
rest_of own (Some s) bytes e = (s, (refl, same_Some _ _ e))

pub utf_16_text_back : (order : ByteOrder) (points bytes : List ℕ) → scalars points ≡ true → encoded (Utf16 order) points ≡ Some bytes
    → utf_16 order start bytes ≡ encode_utf8_all points
utf_16_text_back order [] bytes are is = ap (utf_16 order start) (sym (same_Some _ _ is))
utf_16_text_back order (p ∷ points) bytes are is =
    let own = rest_of (units_bytes order p) (encoded (Utf16 order) points) bytes is in
    ap (utf_16 order start) (sym own.1.1) ∙ units_read order p own.0 ((and_parts _ _ are).0)
    ∙ ap (λ t. encode_utf8 p ++ t) (utf_16_text_back order points own.0 ((and_parts _ _ are).1) own.1.0)

pub utf_16_right : (order : ByteOrder) (at : ℕ) (points bytes : List ℕ) → scalars points ≡ true → encoded (Utf16 order) points ≡ Some bytes
    → utf_16_wrong order start at bytes ≡ None
utf_16_right order at [] bytes are is = ap (utf_16_wrong order start at) (sym (same_Some _ _ is))
utf_16_right order at (p ∷ points) bytes are is =
    let own = rest_of (units_bytes order p) (encoded (Utf16 order) points) bytes is in
    let step = units_right order p at own.0 ((and_parts _ _ are).0) in
    ap (utf_16_wrong order start at) (sym own.1.1) ∙ step.1 ∙ utf_16_right order step.0 points own.0 ((and_parts _ _ are).1) own.1.0
