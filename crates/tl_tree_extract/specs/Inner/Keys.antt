-- Keys by their first bytes.
use Rattle.std.specs.Prelude.{List, [], ◌%◌, ◌∷◌, ℕ}

-- the lower bits of the first byte
abbrev pub place_of : List ℕ → ℕ
place_of [] = 0
place_of (b ∷ key) = b % 32
