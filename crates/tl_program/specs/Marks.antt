-- What a contract sees of a marked reader or writer.
use Rattle.std.specs.Prelude.{ℕ, Bool}

-- what it wraps, whether it has failed, how often it was flushed, and whether it was not written to
-- since
pub record Marks (T : Type 0) : Type 0 where
  pub inner : T
  pub has_failed : Bool
  pub flushes : ℕ
  pub is_flushed : Bool
