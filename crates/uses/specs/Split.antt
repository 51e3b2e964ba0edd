-- Bytes that are split at each byte of a value.
use Rattle.std.specs.Prelude.{ℕ, List, [], ◌==◌, Option, Some, None}
use Rattle.std.specs.Borrow.{Bor}
use Rattle.std.specs.List.{slice_split}

-- what stands before the first, between them, and after the last
abbrev pub pieces : ℕ → List ℕ → List (List ℕ)
pieces at bytes = slice_split (λ byte. byte == at) bytes

-- these pieces of what is left, if anything is
abbrev pub remaining_pieces : ℕ → Option (Bor (List ℕ)) → List (List ℕ)
remaining_pieces at None = []
remaining_pieces at (Some rest) = pieces at rest.now
