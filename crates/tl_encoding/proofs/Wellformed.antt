-- Bytes of UTF-16 without an error are those of the characters that they stand for.
use Rattle.std.proofs.Common.{◌≡◌, ◌∙◌, ℕ, ◌+◌, ◌-◌, ◌*◌, ◌/◌, ◌%◌, ◌<◌, ◌≤◌, true, false, List, [], ◌∷◌, ◌++◌, Some, None, ap, ap₂, arith, encode_utf8, encode_utf8_all, get_or, inl, inr, length, nat_le, nat_lt, refl, suc, sym, zero}
use Rattle.std.proofs.Math.Nat.{div-eq_of_lt, mod-eq_of_lt, mul-add-div_right, mul-add-mod_self_right}
use Rattle.std.proofs.Math.Utf8.{scalar, scalars}
use Rattle.std.proofs.lemmas.Option.{none-some}
use Rattle.std.proofs.lemmas.Bool.{and_cases, and_from, and_parts, cases_Bool, le-leb, le-ltb, leb-false, leb-true, lt-ltb, ltb-false, ltb-true}
use Rattle.std.specs.Char.Utf16.{is_high_surrogate, is_low_surrogate, surrogate_pair_char}
use Rattle.tl_encoding.specs.Encoders.{appended, encoded, unit_bytes, units_bytes}
use Rattle.tl_encoding.specs.Utf16.{code_unit, start, utf_16, utf_16_wrong}
use Rattle.tl_encoding.specs.declared.encoding.ByteOrder.{ByteOrder}
use Rattle.tl_encoding.specs.declared.encoding.ByteOrder.TheVariants.{BigEndian, LittleEndian}
use Rattle.tl_encoding.specs.declared.encoding.Encoding.TheVariants.{Utf16}
use Rattle.tl_encoding.proofs.Units.{lower, one_read, two_read, upper}

abbrev pub Back : ByteOrder → List ℕ → Type 0
Back order page = (points : List ℕ) × ((scalars points ≡ true) × (utf_16 order start page ≡ encode_utf8_all points) × (encoded (Utf16 order) points ≡ Some page))

-- two bytes are those of their code unit
high_part : (a b : ℕ) → b < 256 → (a * 256 + b) / 256 ≡ a
high_part a b small = mul-add-div_right (omega arith) a b ∙ ap (λ q. a + q) (div-eq_of_lt small) ∙ omega arith

low_part : (a b : ℕ) → b < 256 → (a * 256 + b) % 256 ≡ b
low_part a b small = mul-add-mod_self_right a 256 b ∙ mod-eq_of_lt small

unit_back : (order : ByteOrder) (a b : ℕ) → a < 256 → b < 256 → unit_bytes order (code_unit order a b) ≡ a ∷ b ∷ []
unit_back BigEndian a b small_a small_b = rw (high_part a b small_b, low_part a b small_b) refl
unit_back LittleEndian a b small_a small_b = rw (high_part b a small_a, low_part b a small_a) refl

unit_small : (order : ByteOrder) (a b : ℕ) → a < 256 → b < 256 → code_unit order a b < 0x10000
unit_small BigEndian a b small_a small_b = omega (arith, small_a, small_b)
unit_small LittleEndian a b small_a small_b = omega (arith, small_a, small_b)

-- a code unit that is no surrogate is a character
is_char : (u : ℕ) → u < 0x10000 → is_high_surrogate u ≡ false → is_low_surrogate u ≡ false → scalar u ≡ true
is_char u small high low = elim (cases_Bool (nat_lt u 55296)) [
  | inl y ↦ rw y refl
  | inr n ↦
      let above : 0xD800 ≤ u = ltb-false u 55296 n in
      let past : 0xDC00 ≤ u = elim (and_cases _ _ high) [
        | inl a ↦ absurd (omega (arith, leb-false 0xD800 u a, above))
        | inr b ↦ ltb-false u 0xDC00 b
      ] in
      let over : 0xE000 ≤ u = elim (and_cases _ _ low) [
        | inl a ↦ absurd (omega (arith, leb-false 0xDC00 u a, past))
        | inr b ↦ ltb-false u 0xE000 b
      ] in
      rw (n, le-leb 57344 u over, lt-ltb u 1114112 (omega (arith, small))) refl
]

one_back : (order : ByteOrder) (a b : ℕ) (s : List ℕ) → a < 256 → b < 256 → is_high_surrogate (code_unit order a b) ≡ false → is_low_surrogate (code_unit order a b) ≡ false
    → Back order s → Back order (a ∷ b ∷ s)
one_back order a b s small_a small_b high low rest =
    let u = code_unit order a b in
    let own = unit_back order a b small_a small_b in
    let few = unit_small order a b small_a small_b in
    let plain : units_bytes order u ≡ a ∷ b ∷ [] = rw (lt-ltb u 0x10000 few) own in (
      u ∷ rest.0,
      (
        and_from _ _ (is_char u few high low) rest.1.0,
        ap (λ o. utf_16 order start (o ++ s)) (sym own) ∙ one_read order u s high low ∙ ap (λ t. encode_utf8 u ++ t) rest.1.1,
        ap₂ (λ o r. appended (Some o) r) plain rest.1.2,
      ),
    )

-- a pair of surrogates
pair_back : (order : ByteOrder) (a b c d : ℕ) (s : List ℕ) → a < 256 → b < 256 → c < 256 → d < 256
    → is_high_surrogate (code_unit order a b) ≡ true → is_low_surrogate (code_unit order a b) ≡ false
    → is_low_surrogate (code_unit order c d) ≡ true → Back order s → Back order (a ∷ b ∷ c ∷ d ∷ s)
pair_back order a b c d s small_a small_b small_c small_d high not_low low rest =
    let u = code_unit order a b in
    let v = code_unit order c d in
    let p = surrogate_pair_char u v in
    let u_from : 0xD800 ≤ u = leb-true 0xD800 u ((and_parts _ _ high).0) in
    let u_to : u < 0xDC00 = ltb-true u 0xDC00 ((and_parts _ _ high).1) in
    let v_from : 0xDC00 ≤ v = leb-true 0xDC00 v ((and_parts _ _ low).0) in
    let v_to : v < 0xE000 = ltb-true v 0xE000 ((and_parts _ _ low).1) in
    let not_high : is_high_surrogate v ≡ false = rw (le-ltb v 0xDC00 v_from, le-leb 0xD800 v (omega (arith, v_from))) refl in
    let x : ℕ = u - 0xD800 in
    let y : ℕ = v - 0xDC00 in
    let y_few : y < 0x400 = omega (arith, v_to) in
    let sum : p - 0x10000 ≡ x * 0x400 + y = omega arith in
    let up : upper p ≡ u = rw (sum, mul-add-div_right {m = 0x400} (omega arith) x y, div-eq_of_lt y_few) (omega (arith, u_from)) in
    let down : lower p ≡ v = rw (sum, mul-add-mod_self_right x 0x400 y, mod-eq_of_lt y_few) (omega (arith, v_from)) in
    let big : nat_lt p 0x10000 ≡ false = le-ltb p 0x10000 (omega arith) in
    let own : unit_bytes order u ++ unit_bytes order v ≡ a ∷ b ∷ c ∷ d ∷ [] = ap₂ (λ f g. f ++ g) (unit_back order a b small_a small_b) (unit_back order c d small_c small_d) in
    let plain : units_bytes order p ≡ a ∷ b ∷ c ∷ d ∷ [] = rw (big, up, down) own in
    let top : p < 1114112 = omega (arith, u_to, v_to) in
    let is : scalar p ≡ true = rw (le-ltb p 55296 (omega arith), le-leb 57344 p (omega arith), lt-ltb p 1114112 top) refl in (
      p ∷ rest.0,
      (
        and_from _ _ is rest.1.0,
        ap (λ o. utf_16 order start (o ++ s)) (sym own) ∙ two_read order u v s high not_low low not_high ∙ ap (λ t. encode_utf8 p ++ t) rest.1.1,
        ap₂ (λ o r. appended (Some o) r) plain rest.1.2,
      ),
    )

after_high : (order : ByteOrder) (n a b at : ℕ) (s : List ℕ) → length s ≤ n → a < 256 → b < 256 → ((k : ℕ) → get_or s k 0 < 256)
    → is_high_surrogate (code_unit order a b) ≡ true → is_low_surrogate (code_unit order a b) ≡ false
    → ((t : List ℕ) (place : ℕ) → length t ≤ n → ((k : ℕ) → get_or t k 0 < 256) → utf_16_wrong order start place t ≡ None → Back order t)
    → utf_16_wrong order start at (a ∷ b ∷ s) ≡ None → Back order (a ∷ b ∷ s)
after_high order n a b at [] few small_a small_b small high low others right = absurd (none-some _ (sym (rw (low, high) at right)))
after_high order n a b at (c ∷ []) few small_a small_b small high low others right = absurd (none-some _ (sym (rw (low, high) at right)))
after_high order n a b at (c ∷ d ∷ s) few small_a small_b small high low others right =
    elim (cases_Bool (is_low_surrogate (code_unit order c d))) [
      | inl y ↦
          let v_from : 0xDC00 ≤ code_unit order c d = leb-true 0xDC00 (code_unit order c d) ((and_parts _ _ y).0) in
          let not_high : nat_lt (code_unit order c d) 0xDC00 ≡ false = le-ltb (code_unit order c d) 0xDC00 v_from in
          let from : nat_le 0xD800 (code_unit order c d) ≡ true = le-leb 0xD800 (code_unit order c d) (omega (arith, v_from)) in
          pair_back order a b c d s small_a small_b (small 0) (small 1) high low y
          (others s (at + 1 + 1 + 1 + 1) (omega (arith, few)) (λ k. small (suc (suc k))) (rw (low, high, y, not_high, from) at right))
      | inr alone ↦ absurd (none-some _ (sym (rw (low, high, alone) at right)))
    ]

back : (order : ByteOrder) (n : ℕ) (page : List ℕ) (at : ℕ) → length page ≤ n → ((k : ℕ) → get_or page k 0 < 256) → utf_16_wrong order start at page ≡ None → Back order page
back order n [] at few small right = ([], (refl, refl, refl))
back order n (a ∷ []) at few small right = absurd (none-some _ (sym right))
back order zero (a ∷ b ∷ s) at few small right = absurd (omega (arith, few))
back order (suc n) (a ∷ b ∷ s) at few small right = elim (cases_Bool (is_low_surrogate (code_unit order a b))) [
  | inl y ↦ absurd (none-some _ (sym (rw y at right)))
  | inr low ↦ elim (cases_Bool (is_high_surrogate (code_unit order a b))) [
    | inl high ↦
        after_high order n a b at s (omega (arith, few)) (small 0) (small 1) (λ k. small (suc (suc k))) high low (λ t place. back order n t place) right
    | inr high ↦
        one_back order a b s (small 0) (small 1) high low (back order n s (at + 1 + 1) (omega (arith, few)) (λ k. small (suc (suc k))) (rw (low, high) at right))
  ]
]

pub utf_16_points : (order : ByteOrder) (page : List ℕ) → ((k : ℕ) → get_or page k 0 < 256) → utf_16_wrong order start 0 page ≡ None → Back order page
utf_16_points order page small right = back order (length page) page 0 (omega arith) small right
