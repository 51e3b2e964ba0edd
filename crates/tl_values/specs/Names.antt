-- Names that none is used twice.
use Rattle.std.specs.Fmt.{decimal}
use Rattle.std.specs.List.{list_any}
use Rattle.std.specs.Option.{option_map}
use Rattle.std.specs.Prelude.{Bool, List, None, Option, Some, false, if◌then◌else◌, length, suc, true, zero, ℕ, ◌+◌, ◌++◌, ◌∷◌}
use Rattle.std.specs.Str.{bytes_eq}

abbrev pub is_used : List (List ℕ) → List ℕ → Bool
is_used used name = list_any (λ own. bytes_eq own name) used

-- names that are used, with one more
abbrev pub with_name : List (List ℕ) → List ℕ → List (List ℕ)
with_name used name = if is_used used name then used else name ∷ used

abbrev pub numbered : List ℕ → ℕ → List ℕ
numbered name number = name ++ 45 ∷ decimal number

-- the first of so many numbers, from one on, with which the name isn't used
abbrev pub free_number : List (List ℕ) → List ℕ → ℕ → ℕ → Option ℕ
free_number used name zero number = None
free_number used name (suc most) number =
    elim (is_used used (numbered name number)) as (λ _. Option ℕ) [
      | true ↦ free_number used name most (number + 1)
      | false ↦ Some number
    ]

-- the name, or where it is used the first of `name-2`, `name-3` and so on that isn't. Of as many as
-- there are names one isn't, since the name itself is one of these
abbrev pub unique : List (List ℕ) → List ℕ → Option (List ℕ)
unique used name =
    if is_used used name
    then option_map (numbered name) (free_number used name (length used) 2)
    else Some name

-- names that are used, with one that may be made
abbrev pub with_made : List (List ℕ) → Option (List ℕ) → List (List ℕ)
with_made used None = used
with_made used (Some name) = name ∷ used
