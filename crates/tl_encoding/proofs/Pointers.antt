-- Bytes and characters of single-byte encodings: each byte that stands for a character is found by it.
use Rattle.std.proofs.Common.{◌≡◌, ◌∙◌, ℕ, ◌+◌, ◌-◌, ◌<◌, ◌≤◌, Bool, true, false, not, ◌&&◌, ◌||◌, ◌==◌, List, [], ◌∷◌, Option, Some, None, ap, arith, get_or, inl, inr, length, nat_le, nat_lt, refl, subst, suc, sym, true≢false, zero}
use Rattle.std.proofs.Math.Utf8.{scalar}
use Rattle.std.proofs.lemmas.Bool.{and_parts, cases_Bool, eqb-true, ltb-true, ltb-false, leb-true, lt-ltb, le-ltb, ne_eqb}
use Rattle.std.proofs.lemmas.List.Sums.{prefix_len_stops}
use Rattle.std.proofs.lemmas.Option.{none-some, same_Some}
use Rattle.std.specs.List.{position, position_or_len}
use Rattle.tl_encoding.specs.Encoders.{index_byte, of_pointer}
use Rattle.tl_encoding.specs.SingleByte.{of_index}

-- an entry of an index that isn't U+FFFD is a character, no ASCII, and found first where it is
abbrev pub is_at : ℕ → Option ℕ → Bool
is_at at None = false
is_at at (Some other) = at == other

abbrev pub is_found : List ℕ → ℕ → ℕ → Bool
is_found table at point = nat_le 0x80 point && scalar point && is_at at (position (λ other. other == point) table)

abbrev pub is_good : List ℕ → ℕ → ℕ → Bool
is_good table at point = (point == 0xFFFD) || is_found table at point

abbrev pub are_good : List ℕ → ℕ → List ℕ → Bool
are_good table at [] = true
are_good table at (point ∷ points) = is_good table at point && are_good table (at + 1) points

pub good_at : (table points : List ℕ) (at i : ℕ) → are_good table at points ≡ true → i < length points → is_good table (at + i) (get_or points i 0) ≡ true
good_at table [] at i good l = absurd (omega (arith, l))
good_at table (p ∷ ps) at zero good l = let e : at + 0 ≡ at = omega arith in rw e ((and_parts _ _ good).0)
good_at table (p ∷ ps) at (suc i) good l =
    let e : at + suc i ≡ (at + 1) + i = omega arith in
    rw e (good_at table ps (at + 1) i ((and_parts _ _ good).1) (omega (arith, l)))

from_or : (x y : Bool) → (x || y) ≡ true → x ≡ false → y ≡ true
from_or true y e n = absurd (true≢false n)
from_or false y e n = e

at_place : (at : ℕ) (found : Option ℕ) → is_at at found ≡ true → found ≡ Some at
at_place at None e = absurd (true≢false (sym e))
at_place at (Some other) e = ap Some (sym (eqb-true at other e))

found_parts : (table : List ℕ) (at p : ℕ) → is_found table at p ≡ true
    → (nat_le 0x80 p ≡ true) × (scalar p ≡ true) × (is_at at (position (λ other. other == p) table) ≡ true)
found_parts table at p found =
    let both = and_parts (nat_le 0x80 p && scalar p) (is_at at (position (λ other. other == p) table)) found in
    let first = and_parts (nat_le 0x80 p) (scalar p) both.0 in
    (first.0, first.1, both.1)

-- what is known of the character of a byte that isn't wrong
by_found : (table : List ℕ) (at p : ℕ) → (p == 0xFFFD) ≡ false → is_found table at p ≡ true → index_byte table p ≡ Some (0x80 + at)
by_found table at p right found =
    let parts = found_parts table at p found in
    let high : 0x80 ≤ p = leb-true 0x80 p parts.0 in
    let place : position (λ other. other == p) table ≡ Some at = at_place at (position (λ other. other == p) table) parts.2 in
    rw (le-ltb p 0x80 high, right, place) refl

entry : (table : List ℕ) (b : ℕ) → are_good table 0 table ≡ true → length table ≡ 128 → b < 256 → 0x80 ≤ b → (get_or table (b - 0x80) 0 == 0xFFFD) ≡ false
    → is_found table (b - 0x80) (get_or table (b - 0x80) 0) ≡ true
entry table b good long small high right =
    let e : 0 + (b - 0x80) ≡ b - 0x80 = omega arith in
    let is_one : ℕ → Type 0 = λ n. is_good table n (get_or table (b - 0x80) 0) ≡ true in
    from_or (get_or table (b - 0x80) 0 == 0xFFFD) (is_found table (b - 0x80) (get_or table (b - 0x80) 0))
    (subst is_one e (good_at table table 0 (b - 0x80) good (omega (arith, long, small, high)))) right

-- a byte is found by its character
pub byte_back : (table : List ℕ) (b : ℕ) → are_good table 0 table ≡ true → length table ≡ 128 → b < 256 → (of_index table b == 0xFFFD) ≡ false
    → index_byte table (of_index table b) ≡ Some b
byte_back table b good long small right = elim (cases_Bool (nat_lt b 0x80)) [
  | inl y ↦ rw (y, y) refl
  | inr n ↦
      let high : 0x80 ≤ b = ltb-false b 0x80 n in
      let own : (get_or table (b - 0x80) 0 == 0xFFFD) ≡ false = rw n at right in
      let e : 0x80 + (b - 0x80) ≡ b = omega (arith, high) in
      rw n (by_found table (b - 0x80) (get_or table (b - 0x80) 0) own (entry table b good long small high own) ∙ ap Some e)
]

pub char_scalar : (table : List ℕ) (b : ℕ) → are_good table 0 table ≡ true → length table ≡ 128 → b < 256 → (of_index table b == 0xFFFD) ≡ false
    → scalar (of_index table b) ≡ true
char_scalar table b good long small right = elim (cases_Bool (nat_lt b 0x80)) [
  | inl y ↦ let low : nat_lt b 55296 ≡ true = lt-ltb b 55296 (omega (arith, ltb-true b 0x80 y)) in rw (y, low) refl
  | inr n ↦
      let high : 0x80 ≤ b = ltb-false b 0x80 n in
      let own : (get_or table (b - 0x80) 0 == 0xFFFD) ≡ false = rw n at right in
      rw n ((found_parts table (b - 0x80) (get_or table (b - 0x80) 0) (entry table b good long small high own)).1)
]

from_not : (x : Bool) → not x ≡ false → x ≡ true
from_not true e = refl
from_not false e = absurd (true≢false e)

found_at : (test : ℕ → Bool) (table : List ℕ) (at : ℕ) → position test table ≡ Some at → test (get_or table at 0) ≡ true
found_at test table at found = elim (cases_Bool (nat_lt (position_or_len test table) (length table))) [
  | inl y ↦
      let e : position_or_len test table ≡ at = same_Some _ _ (rw y at found) in
      rw (sym e) (from_not _ (prefix_len_stops (λ x. not (test x)) table 0 (ltb-true _ _ y)))
  | inr n ↦ absurd (none-some at (rw n at found))
]

pointed : (pointer : Option ℕ) (b : ℕ) → of_pointer pointer ≡ Some b → (at : ℕ) × ((pointer ≡ Some at) × (0x80 + at ≡ b))
pointed None b e = absurd (none-some b e)
pointed (Some at) b e = (at, (refl, same_Some _ _ e))

-- and a character by its byte
pub char_back : (table : List ℕ) (p b : ℕ) → index_byte table p ≡ Some b → of_index table b ≡ p
char_back table p b found = elim (cases_Bool (nat_lt p 0x80)) [
  | inl y ↦ ap (of_index table) (sym (same_Some p b (rw y at found))) ∙ rw y refl
  | inr n ↦ elim (cases_Bool (p == 0xFFFD)) [
    | inl w ↦ absurd (none-some b (rw (n, w) at found))
    | inr r ↦
        let own = pointed (position (λ other. other == p) table) b (rw (n, r) at found) in
        let at = own.0 in
        let past : nat_lt (0x80 + at) 0x80 ≡ false = le-ltb (0x80 + at) 0x80 (omega arith) in
        let e : 0x80 + at - 0x80 ≡ at = omega arith in
        ap (of_index table) (sym own.1.1) ∙ rw (past, e) (eqb-true _ _ (found_at (λ other. other == p) table at own.1.0))
  ]
]

pub char_right : (table : List ℕ) (p b : ℕ) → index_byte table p ≡ Some b → (p == 0xFFFD) ≡ false
char_right table p b found = elim (cases_Bool (nat_lt p 0x80)) [
  | inl y ↦ ne_eqb p 0xFFFD (λ e. omega (arith, e, ltb-true p 0x80 y))
  | inr n ↦ elim (cases_Bool (p == 0xFFFD)) [
    | inl w ↦ absurd (none-some b (rw (n, w) at found))
    | inr r ↦ r
  ]
]
