-- What an `InlineVec` ends as, where a `&mut` to its items is returned.
use Rattle.std.specs.Prelude.{ℕ, Bool, List, Option}
use Rattle.std.specs.Borrow.{follows, LendsIf, Fml, RattleType, MutBor, Array}
use Rattle.tl_spec.specs.Tree.Inline.{InlineVec, with_item, with_items}
use Rattle.tl_inline.specs.contracts.inline.vec.InlineVec.{the_row}

module _ (T N : RattleType) (v : MutBor (InlineVec T.Denot)) where
  -- once the borrow r ends, the index has the last value written through r, and at `None` the
  -- vector stays as it is
  abbrev pub lends_item : ℕ → Option (MutBor T.Denot) → Fml
  lends_item i r = LendsIf (the_row T N) T v r (with_item v.now i) v.now

  -- once the borrow r ends, the items are those that r shows last, still inline, and at `None` the
  -- vector stays as it is
  abbrev pub lends_inline : Option (MutBor (List T.Denot)) → Fml
  lends_inline r = LendsIf (the_row T N) (Array T 0) v r (with_items v.now) v.now

  -- once the borrow r ends, the items are those that r shows last
  abbrev pub lends_items : MutBor (List T.Denot) × Bool → Fml
  lends_items r = follows (the_row T N) (Array T 0) v.ghost_name r.0.ghost_name (with_items v.now)
