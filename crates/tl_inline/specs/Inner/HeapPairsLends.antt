-- What pairs on the heap end as, seen as a list, where a value is lent. No public clause cites this
-- module.
use Rattle.std.specs.Prelude.{ℕ, List, Option}
use Rattle.std.specs.Borrow.{LendsIf, Fml, RattleType, MutBor}
use Rattle.std.specs.HashMap.Lent.{HashMembers}
use Rattle.indexmap.specs.IndexMap.{set_value_at}
use Rattle.tl_inline.specs.contracts.inline.hashmap.heap.HeapPairs.{the_row}

module _ (K V : RattleType) (key : HashMembers K.Denot)
    (h : MutBor (List (K.Denot × V.Denot))) where
  -- the type of the pairs, with the comparison and the hash of their keys
  abbrev pub heap_row : RattleType
  heap_row = the_row K V (record { eq = key.eq }) (record { hash_input = key.hash_input })

  -- once the borrow r ends, the index has the last value written through r, and at `None` the pairs
  -- stay as they are
  abbrev pub lends_index : ℕ → Option (MutBor V.Denot) → Fml
  lends_index i r = LendsIf heap_row V h r (set_value_at h.now i) h.now
