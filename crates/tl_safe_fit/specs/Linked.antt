-- Links from words to earlier words that begin alike.
use Rattle.std.specs.Prelude.{◌+◌, ◌*◌, ◌%◌, ◌==◌, ℕ, zero, suc, List, [], ◌∷◌, slice_index_or, if◌then◌else◌}

-- words that begin alike share a slot
abbrev pub slot_of : List ℕ → ℕ
slot_of [] = 0
slot_of (a ∷ []) = a % 64
slot_of (a ∷ b ∷ word) = (a * 8 + b) % 64

-- one more than the place of the last of the first n words that is of a slot, 0 where none is
abbrev pub latest : List (List ℕ) → ℕ → ℕ → ℕ
latest words slot zero = 0
latest words slot (suc n) =
    if slot_of (slice_index_or words n []) == slot then suc n else latest words slot n
