-- What the storage of a map ends as, where a value is lent. No public clause cites this module.
use Rattle.std.specs.Prelude.{ℕ, Option}
use Rattle.std.specs.Borrow.{LendsIf, Fml, RattleType, MutBor}
use Rattle.std.specs.HashMap.Lent.{HashMembers}
use Rattle.tl_inline.specs.Inner.PairStorage.{storage_with_value_at}
use Rattle.tl_inline.specs.contracts.inline.hashmap.storage.PairStorage.{the_row}

module _ (K V N : RattleType) (key : HashMembers K.Denot) where
  -- the type of the storage, with the comparison and the hash of its keys
  abbrev pub held_row : RattleType
  held_row = the_row K V N (record { eq = key.eq }) (record { hash_input = key.hash_input })

  -- once the borrow r ends, the index has the last value written through r
  abbrev pub lends_value_at : MutBor held_row.Denot → ℕ → Option (MutBor V.Denot) → Fml
  lends_value_at h i r = LendsIf held_row V h r (storage_with_value_at h.now i) h.now
