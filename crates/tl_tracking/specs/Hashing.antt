-- How names are hashed.
use Rattle.std.specs.Prelude.{ℕ}
use Rattle.std.specs.Hash.{u64}
use Rattle.std.specs.Hash.FoldHasher.{initial, write}
use Rattle.std.specs.List.{fold}
use Rattle.tl_tracking.specs.declared.hasher.KeyedState.{KeyedState}

-- the hasher that begins with this number
abbrev pub keyed_by : ℕ → KeyedState
keyed_by key = record { initial = fold write initial (u64 key) }
