-- Where an `InlineHashMap` keeps its pairs. No public clause cites this module.
use Rattle.std.specs.Prelude.{ℕ, true, false}
use Rattle.indexmap.specs.IndexMap.{set_value_at}
use Rattle.tl_spec.specs.Tree.Inline.{InlineMap}
use Rattle.tl_inline.specs.declared.inline.hashmap.storage.PairStorage.{PairStorage}
use Rattle.tl_inline.specs.declared.inline.hashmap.storage.PairStorage.TheVariants.{Inline, Heap}

module _ {K V : Type 0} {N : ℕ} where
  -- what a contract sees
  abbrev pub storage_view : PairStorage K V N → InlineMap K V
  storage_view (Inline m) = record { entries = m.items; on_heap = false }
  storage_view (Heap es) = record { entries = es; on_heap = true }

  -- h with w as the value at the index
  abbrev pub storage_with_value_at : PairStorage K V N → ℕ → V → PairStorage K V N
  storage_with_value_at (Inline m) i w = Inline (record { items = set_value_at m.items i w })
  storage_with_value_at (Heap es) i w = Heap (set_value_at es i w)
