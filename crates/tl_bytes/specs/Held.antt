-- What a clause sees of a `Bytes`: its list, and how it is held.
use Rattle.std.specs.Prelude.{ℕ, List, Option, Some, None}

pub data Held : Type 0 where
  borrowed : Held
  owned : Held
  shared : Held

pub record Kept : Type 0 where
  pub list : List ℕ
  pub held : Held

-- the list, owned
abbrev pub as_owned : List ℕ → Kept
as_owned bytes = record { list = bytes; held = owned }

-- the list of what is owned
abbrev pub owned_part : Held → List ℕ → Option (List ℕ)
owned_part borrowed bytes = None
owned_part owned bytes = Some bytes
owned_part shared bytes = None
