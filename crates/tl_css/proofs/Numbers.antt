-- Numbers that digits say.
use Rattle.std.proofs.Common.{◌≡◌, ℕ, suc, ◌+◌, ◌-◌, ◌*◌, ◌^◌, ◌<◌, ◌≤◌, nat_lt, true, List, [], ◌∷◌, Some, None, ap, sym, ◌∙◌, arith, if◌then◌else◌}
use Rattle.std.proofs.Math.Nat.{pow-suc, pow-le-pow_right}
use Rattle.tl_spec.proofs.Lex.Grammar.{if_yes}
use Rattle.tl_css.specs.Formula.{largest}
use Rattle.tl_css.specs.Bytes.{decimal_number}

-- a number is no less than what it begins with
pub decimal_ge : (n : ℕ) (s : List ℕ) → n ≤ decimal_number n s
decimal_ge n [] = omega arith
decimal_ge n (b ∷ s) = let h = decimal_ge (n * 10 + (b - 48)) s in omega arith

-- what at most six hex digits say is small
pub hex_small : (n k : ℕ) → n + 12 ≤ 12 * 16 ^ k → k ≤ 5 → n ≤ 12582900
hex_small n k h less = let p : 16 ^ k ≤ 1048576 = pow-le-pow_right (omega arith) less in omega arith

pub hex_more : (n v k j : ℕ) → n + 12 ≤ 12 * 16 ^ k → v ≤ 168 → j ≡ suc k → n * 16 + v + 12 ≤ 12 * 16 ^ j
hex_more n v k j h small e = let p : 16 ^ j ≡ 16 ^ k * 16 = ap (λ m. 16 ^ m) e ∙ pow-suc 16 k in omega arith

-- digits after which a number is too large make none that isn't
pub decimal_large : (n : ℕ) (s t : List ℕ) → decimal_number n s ≡ decimal_number 0 t → largest < n
    → None ≡ (if nat_lt largest (decimal_number 0 t) then None else Some (decimal_number 0 t))
decimal_large n s t e more =
    let ge = decimal_ge n s in
    let is : nat_lt largest (decimal_number 0 t) ≡ true = grind arith in
    sym (if_yes _ _ _ is)
