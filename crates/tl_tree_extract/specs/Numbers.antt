-- The standard's rules for parsing non-negative integers (2.3.4.2).
use Rattle.std.specs.Char.{is_ascii_digit}
use Rattle.std.specs.Option.{option_and_then}
use Rattle.std.specs.Prelude.{List, None, Option, Some, [], false, if◌then◌else◌, true, ℕ, ◌*◌, ◌+◌, ◌-◌, ◌==◌, ◌∷◌}
use Rattle.tl_tree_extract.specs.Runs.{behind}
use Rattle.tl_tree_extract.specs.declared.run.Run.TheVariants.{White}

-- the number of the digits that stand first, behind those of a value
abbrev pub digits_after : ℕ → List ℕ → ℕ
digits_after value [] = value
digits_after value (b ∷ bytes) =
    elim (is_ascii_digit b) as (λ _. ℕ) [
      | true ↦ digits_after (value * 10 + (b - 48)) bytes
      | false ↦ value
    ]

abbrev pub digits_first : List ℕ → Option ℕ
digits_first [] = None
digits_first (b ∷ bytes) =
    if is_ascii_digit b then Some (digits_after 0 (b ∷ bytes)) else None

-- of what stands behind a minus sign 0 alone isn't below it
abbrev pub if_zero : ℕ → Option ℕ
if_zero value = if value == 0 then Some 0 else None

-- behind a sign, if there is one
abbrev pub signed : List ℕ → Option ℕ
signed [] = None
signed (b ∷ bytes) =
    if b == 45 then option_and_then if_zero (digits_first bytes)
    else if b == 43 then digits_first bytes else digits_first (b ∷ bytes)

abbrev pub non_negative : List ℕ → Option ℕ
non_negative bytes = signed (behind White bytes)
