-- What the storage of a vector ends as, where its items are lent. No public clause cites this
-- module.
use Rattle.std.specs.Prelude.{ℕ, Bool, List, Option}
use Rattle.std.specs.Borrow.{follows, LendsIf, Fml, RattleType, MutBor, Array}
use Rattle.tl_inline.specs.Inner.ItemStorage.{storage_with_item, storage_with_items}
use Rattle.tl_inline.specs.contracts.inline.vec.storage.ItemStorage.{the_row}

module _ (T N : RattleType) (h : MutBor (the_row T N).Denot) where
  -- once the borrow r ends, the index has the last value written through r
  abbrev pub lends_item : ℕ → Option (MutBor T.Denot) → Fml
  lends_item i r = LendsIf (the_row T N) T h r (storage_with_item h.now i) h.now

  -- once the borrow r ends, the items are those that r shows last
  abbrev pub lends_items : MutBor (List T.Denot) × Bool → Fml
  lends_items r =
      follows (the_row T N) (Array T 0) h.ghost_name r.0.ghost_name (storage_with_items h.now)
