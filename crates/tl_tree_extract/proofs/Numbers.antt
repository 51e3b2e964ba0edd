-- Numbers of digits, of which the greatest are not told from each other.
use Rattle.std.proofs.Common.{◌≡◌, ◌<◌, ◌*◌, ◌+◌, ◌-◌, ◌∷◌, Bool, List, [], add-one, arith, drop, false, get_or, length, refl, true, ℕ}
use Rattle.std.proofs.Math.Seq.{drop-cons}
use Rattle.std.proofs.lemmas.Bool.Decides.{nat_tests}
use Rattle.std.specs.Char.{is_ascii_digit}
use Rattle.std.specs.Option.{option_map}
use Rattle.std.specs.Prelude.{None, Option, Some, min}
use Rattle.tl_tree_extract.specs.Numbers.{digits_after}
use Rattle.tl_tree_extract.specs.Table.{bottom_said, columns_said}

-- values that are the same up to the limit have the same numbers up to it
pub same_after : (bytes : List ℕ) (v w : ℕ) → min 65535 v ≡ min 65535 w
    → min 65535 (digits_after v bytes) ≡ min 65535 (digits_after w bytes)
same_after [] v w e = e
same_after (b ∷ bytes) v w e =
    elim (is_ascii_digit b) as (λ (d : Bool). min 65535 (elim d as (λ _. ℕ) [ true ↦ digits_after (v * 10 + (b - 48)) bytes | false ↦ v ])
    ≡ min 65535 (elim d as (λ _. ℕ) [ true ↦ digits_after (w * 10 + (b - 48)) bytes | false ↦ w ])) [
      | true ↦ same_after bytes (v * 10 + (b - 48)) (w * 10 + (b - 48)) (omega (arith, e))
      | false ↦ e
    ]

-- a value that was cut off at the limit
pub cut_after : (bytes : List ℕ) (v : ℕ) → min 65535 (digits_after (min 65535 v) bytes) ≡ min 65535 (digits_after v bytes)
cut_after bytes v = same_after bytes (min 65535 v) v (omega arith)

-- the value of one digit more
pub one_more : (bytes : List ℕ) (i v w : ℕ) → i < length bytes → is_ascii_digit (get_or bytes i 0) ≡ true
    → w ≡ min 65535 (v * 10 + (get_or bytes i 0 - 48))
    → min 65535 (digits_after w (drop (i + 1) bytes)) ≡ min 65535 (digits_after v (drop i bytes))
one_more bytes i v w within digit is =
    rw (is, cut_after (drop (i + 1) bytes) (v * 10 + (get_or bytes i 0 - 48)), add-one, drop-cons bytes i 0)
    (rw (digit, digits_after) refl)

-- a number that was cut off says the same spans

pub columns_cut : (o : Option ℕ) → columns_said (option_map (min 65535) o) ≡ columns_said o
columns_cut None = refl
columns_cut (Some n) = grind (arith, nat_tests)

pub bottom_cut : (o : Option ℕ) (number end : ℕ) → bottom_said (option_map (min 65535) o) number end ≡ bottom_said o number end
bottom_cut None number end = refl
bottom_cut (Some n) number end = grind (arith, nat_tests)
