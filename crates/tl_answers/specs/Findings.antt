-- What is answered.
use Rattle.std.specs.Fmt.{decimal}
use Rattle.std.specs.Prelude.{Bool, List, Option, None, Some, [], false, nat_lt, true, ℕ, ◌++◌, ◌∷◌}
use Rattle.tl_answers.specs.declared.output.Output.{Output}

-- bytes, and whether something was found
pub record Finding : Type 0 where
  pub bytes : List ℕ
  pub is_found : Bool

abbrev pub finding_of : Output → Finding
finding_of output = record { bytes = output.bytes.items; is_found = output.is_found }

-- whether there is something
abbrev pub has_items : {X : Type 0} → List X → Bool
has_items [] = false
has_items (x ∷ xs) = true

-- what looks for nothing finds all that it gives
abbrev pub whole : List ℕ → Finding
whole bytes = record { bytes = bytes; is_found = true }

-- answers of which none is empty
abbrev pub listed : List ℕ → Finding
listed bytes = record { bytes = bytes; is_found = has_items bytes }

-- bytes of these nodes: something is found where there are any
abbrev pub of_nodes : List ℕ → List ℕ → Finding
of_nodes numbers bytes = record { bytes = bytes; is_found = has_items numbers }

-- a number and what ends it
abbrev pub number_line : List ℕ → ℕ → Finding
number_line end number = record { bytes = decimal number ++ end; is_found = nat_lt 0 number }
