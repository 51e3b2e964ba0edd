-- What `parse` makes of digits.
use Rattle.std.proofs.Common.{◌≡◌, ◌≢◌, ℕ, ◌<◌, ◌^◌, List, Bool, true, false, None, Some, Result, Ok, Err, length, refl, ap, if◌then◌else◌, ◌==◌, rules, arith, get_or}
use Rattle.std.proofs.lemmas.Bool.Decides.{nat_tests}
use Rattle.std.proofs.lemmas.Str.Parse.{IsNumeralModel, numerals_by_fold, parse_plain}
use Rattle.std.specs.Result.{result_ok}
use Rattle.std.specs.Str.{all_ascii_digits}
use Rattle.std.specs.Str.Parse.{ParsesUnsigned}
use Rattle.tl_spec.specs.Edit.StepLine.{continue_number, is_number, number_of}

own : IsNumeralModel (λ ds. all_ascii_digits ds ≡ true) (continue_number 0)
own = numerals_by_fold _ (search rules) continue_number (search rules)

is_number_true : (digits : List ℕ) → all_ascii_digits digits ≡ true → 0 < length digits → continue_number 0 digits < 2 ^ 32 → is_number digits ≡ true
is_number_true digits d l v = grind (arith, nat_tests)

is_number_parts : (digits : List ℕ) → is_number digits ≡ true → (all_ascii_digits digits ≡ true) × (0 < length digits) × (continue_number 0 digits < 2 ^ 32)
is_number_parts digits h = (grind (arith, nat_tests), grind (arith, nat_tests), grind (arith, nat_tests))

-- what is parsed is the number
number_some : (digits : List ℕ) (n : ℕ) → ParsesUnsigned {E = ℕ} 32 10 digits (Ok n) → get_or digits 0 0 ≢ 43 → Some n ≡ number_of digits
number_some digits n h p =
    let k = parse_plain own {E = ℕ} 32 digits (Ok n) h p in
    rw (is_number_true digits k.0.0 k.0.1 k.0.2) (ap Some k.1)

none_if : (b : Bool) (n : ℕ) → (b ≡ true → ⊥) → None ≡ (if b then Some n else None)
none_if true n not_so = absurd (not_so refl)
none_if false n not_so = refl

-- what is not parsed is no number
number_none : (E : Type 0) (digits : List ℕ) (x : E) → ParsesUnsigned {E = E} 32 10 digits (Err x) → get_or digits 0 0 ≢ 43 → None ≡ number_of digits
number_none E digits x h p =
    let k = parse_plain own {E = E} 32 digits (Err x) h p in
    none_if (is_number digits) (continue_number 0 digits) (λ t. k (is_number_parts digits t))

pub number_read : {E : Type 0} (digits : List ℕ) (r : Result ℕ E) → ParsesUnsigned 32 10 digits r → get_or digits 0 0 ≢ 43 → result_ok r ≡ number_of digits
number_read digits (Ok n) h p = number_some digits n h p
number_read {E} digits (Err x) h p = number_none E digits x h p

pub no_plus : (bytes : List ℕ) (r : Bool) → r ≡ (get_or bytes 0 0 == 43) → r ≡ false → get_or bytes 0 0 ≢ 43
no_plus bytes r h e = grind (arith, nat_tests)
