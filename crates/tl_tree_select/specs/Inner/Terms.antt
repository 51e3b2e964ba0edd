-- Terms of a formula.
use Rattle.std.specs.Prelude.{◌≡◌, ◌+ℤ◌, ℕ, ℤ, pos, negsuc, Bool, true, false}

-- a number is so far above another, or below it
abbrev pub IsDistance : Bool → ℕ → ℤ → ℕ → Type 0
IsDistance true count b distance = pos count ≡ pos distance +ℤ b
IsDistance false count b distance = b ≡ pos count +ℤ pos distance

abbrev pub is_natural : ℤ → Bool
is_natural (pos n) = true
is_natural (negsuc n) = false
