-- Bytes that stay as they are.
use Rattle.std.specs.Prelude.{Bool, not, ℕ, ◌&&◌, ◌==◌}

abbrev pub is_whole : ℕ → Bool
is_whole b = not (b == 0) && not (b == 13) && not (b == 27)
