-- What options ask for.
use Rattle.std.specs.Prelude.{ℕ, ◌+◌, ◌*◌, Bool, false}
use Rattle.std.specs.Int.{from_bool}

-- whether ids are tracked, and whether classes are
pub record Options : Type 0 where
  pub ids : Bool
  pub classes : Bool

-- neither
abbrev pub untracked : Options
untracked = record { ids = false; classes = false }

-- the number whose bit 0 says ids and whose bit 1 says classes
abbrev pub raw_of : Options → ℕ
raw_of o = from_bool o.ids + 2 * from_bool o.classes
