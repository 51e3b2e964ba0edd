-- What is asked of a run's bytes.
use Rattle.std.specs.Prelude.{Bool, not, ◌==◌, ℕ}

abbrev pub is_not_null : ℕ → Bool
is_not_null c = not (c == 0)
