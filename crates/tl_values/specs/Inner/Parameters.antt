-- Parameters, written one after the other.
use Rattle.std.specs.Borrow.{Bor}
use Rattle.std.specs.List.{join_with_byte}
use Rattle.std.specs.Prelude.{Bool, List, None, Option, Some, [], if◌then◌else◌, ℕ, ◌∷◌}
use Rattle.tl_values.specs.Parameters.{parameters_of}

-- the parameters of what is left of a query, if anything is
abbrev pub parameters_left : Option (Bor (List ℕ)) → List (List ℕ)
parameters_left None = []
parameters_left (Some rest) = parameters_of rest.now

-- a parameter, behind a `&` where others stand before it
abbrev pub joined_one : Bool → List ℕ → List ℕ
joined_one is_first parameter = if is_first then parameter else 38 ∷ parameter

-- parameters with one `&` between, and one before them where others stand there
abbrev pub joined_all : Bool → List (List ℕ) → List ℕ
joined_all is_first [] = []
joined_all is_first (parameter ∷ more) = joined_one is_first (join_with_byte 38 (parameter ∷ more))
