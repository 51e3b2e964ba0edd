-- What is kept of a code unit.
use Rattle.std.proofs.Common.{◌≡◌, ℕ, true, Option, inl, inr}
use Rattle.std.specs.Prelude.{IfSome}
use Rattle.std.specs.Char.Utf16.{is_high_surrogate}
use Rattle.std.proofs.lemmas.Bool.{cases_Bool}
use Rattle.tl_encoding.specs.Utf16.{kept}

-- it is a leading surrogate
pub kept_leads : (leading : Option ℕ) (unit : ℕ) → leading ≡ kept unit → IfSome leading (λ kept. is_high_surrogate kept ≡ true)
kept_leads leading unit e = rw e (elim (cases_Bool (is_high_surrogate unit)) [
  | inl y ↦ rw y y
  | inr n ↦ rw n tt
])

pub ruleset steps = (kept_leads)
