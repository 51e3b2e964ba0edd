-- Digits of a number in base 16.
use Rattle.std.specs.Prelude.{ℕ, zero, suc, List, [], ◌∷◌, codes}

-- the digit at a place; the first one past the end
abbrev pub digit_in : List ℕ → ℕ → ℕ
digit_in [] n = 48
digit_in (d ∷ ds) zero = d
digit_in (d ∷ ds) (suc n) = digit_in ds n

abbrev pub digits : List ℕ
digits = codes "0123456789abcdef"
