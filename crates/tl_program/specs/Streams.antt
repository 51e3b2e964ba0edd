-- What is seen of what is read from and written to.
use Rattle.std.specs.Prelude.{ℕ, List, Option, Bool}

pub record Reading : Type 0 where
  -- the bytes that it has left, where it tells them
  pub left : Option (List ℕ)
  -- whether a call of it has answered a fault
  pub has_failed : Bool

pub record Writing : Type 0 where
  -- the bytes that it holds, where it tells them
  pub holds : Option (List ℕ)
  -- whether a call of it has answered a fault
  pub has_failed : Bool
  -- how often it was flushed without a fault
  pub flushes : ℕ
  -- whether it was not written to since it was last flushed without a fault
  pub is_flushed : Bool
