-- What is wrong at the front of a text.
use Rattle.std.specs.Prelude.{◌≡◌, ℕ, ◌-◌, List, length, Err}
use Rattle.tl_css.specs.declared.error.Wrong.{Wrong}
use Rattle.tl_css.specs.declared.error.Cause.{Cause}
use Rattle.tl_css.specs.declared.text.role.Role.TheVariants.{Top}
use Rattle.tl_css.specs.Item.{begin_at}

-- the first simple selector is wrong, or none stands there: here, for this cause
abbrev pub IsFirstWrong : List ℕ → ℕ → Cause → Type 0
IsFirstWrong text at cause = (wrong : Wrong) × (begin_at Top text ≡ Err wrong)
    × (at ≡ length text - wrong.left) × (cause ≡ wrong.cause)
