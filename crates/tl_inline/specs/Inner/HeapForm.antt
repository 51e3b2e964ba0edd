-- In which form pairs lie on the heap. No public clause cites this module.
use Rattle.std.specs.Prelude.{ℕ, List}
use Rattle.indexmap.specs.IndexMap.{with_value_at, set_value_at}
use Rattle.tl_inline.specs.declared.inline.hashmap.heap.form.HeapForm.{HeapForm}
use Rattle.tl_inline.specs.declared.inline.hashmap.heap.form.HeapForm.TheVariants.{Indexed, Noted}

module _ {K V : Type 0} where
  -- the pairs in order
  abbrev pub form_entries : HeapForm K V → List (K × V)
  form_entries (Indexed m) = m.entries
  form_entries (Noted es) = es

  -- f with w as the value at the index
  abbrev pub form_with_value_at : HeapForm K V → ℕ → V → HeapForm K V
  form_with_value_at (Indexed m) i w = Indexed (with_value_at m i w)
  form_with_value_at (Noted es) i w = Noted (set_value_at es i w)
