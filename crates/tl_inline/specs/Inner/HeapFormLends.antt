-- What pairs on the heap end as, where a value is lent. No public clause cites this module.
use Rattle.std.specs.Prelude.{ℕ, Option}
use Rattle.std.specs.Borrow.{LendsIf, Fml, RattleType, MutBor}
use Rattle.std.specs.HashMap.Lent.{HashMembers}
use Rattle.tl_inline.specs.Inner.HeapForm.{form_with_value_at}
use Rattle.tl_inline.specs.contracts.inline.hashmap.heap.form.HeapForm.{the_row}

module _ (K V : RattleType) (key : HashMembers K.Denot) where
  -- the type of the pairs, with the comparison and the hash of their keys
  abbrev pub form_row : RattleType
  form_row = the_row K V (record { eq = key.eq }) (record { hash_input = key.hash_input })

  -- once the borrow r ends, the index has the last value written through r
  abbrev pub lends_value_at : MutBor form_row.Denot → ℕ → Option (MutBor V.Denot) → Fml
  lends_value_at h i r = LendsIf form_row V h r (form_with_value_at h.now i) h.now
