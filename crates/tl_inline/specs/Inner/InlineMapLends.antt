-- What an `InlineHashMap` ends as, where a `&mut` to a value is returned.
use Rattle.std.specs.Prelude.{Option}
use Rattle.std.specs.Borrow.{LendsIf, Fml, RattleType, MutBor}
use Rattle.std.specs.HashMap.Lent.{HashMembers}
use Rattle.tl_spec.specs.Tree.Inline.{InlineMap, with_value}
use Rattle.tl_inline.specs.contracts.inline.hashmap.InlineHashMap.{the_row}

module _ (K V N : RattleType) (key : HashMembers K.Denot)
    (m : MutBor (InlineMap K.Denot V.Denot)) where
  -- the type of the map, with the comparison and the hash of its keys
  abbrev pub map_row : RattleType
  map_row = the_row K V N (record { eq = key.eq }) (record { hash_input = key.hash_input })

  -- once the borrow r ends, the key has the last value written through r, and at `None` the map
  -- stays as it is
  abbrev pub lends_value : K.Denot → Option (MutBor V.Denot) → Fml
  lends_value k r = LendsIf map_row V m r (with_value key.eq m.now k) m.now
