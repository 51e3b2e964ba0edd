-- Where an `InlineVec` keeps its items. No public clause cites this module.
use Rattle.std.specs.Prelude.{ℕ, true, false, List}
use Rattle.std.specs.Vec as vec
use Rattle.arrayvec.specs.ArrayVec as inline
use Rattle.tl_spec.specs.Tree.Inline.{InlineVec}
use Rattle.tl_inline.specs.declared.inline.vec.storage.ItemStorage.{ItemStorage}
use Rattle.tl_inline.specs.declared.inline.vec.storage.ItemStorage.TheVariants.{Inline, Heap}

module _ {T : Type 0} {N : ℕ} where
  -- what a contract sees
  abbrev pub storage_view : ItemStorage T N → InlineVec T
  storage_view (Inline v) = record { items = v.items; on_heap = false }
  storage_view (Heap v) = record { items = v.items; on_heap = true }

  -- h with x as the item at the index
  abbrev pub storage_with_item : ItemStorage T N → ℕ → T → ItemStorage T N
  storage_with_item (Inline v) i x = Inline (inline.with_item v i x)
  storage_with_item (Heap v) i x = Heap (vec.with_item v i x)

  -- h after a write of its items as a slice
  abbrev pub storage_with_items : ItemStorage T N → List T → ItemStorage T N
  storage_with_items (Inline v) xs = Inline (inline.with_items v xs)
  storage_with_items (Heap v) xs = Heap (vec.with_items v xs)
