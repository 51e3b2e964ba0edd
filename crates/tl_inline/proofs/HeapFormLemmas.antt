-- What a write to pairs on the heap does to the list of them.
use Rattle.std.proofs.Common.{◌≡◌, ℕ, Bool, refl, sym, ap, subst, ◌∙◌}
use Rattle.std.specs.List.{IsDistinct}
use Rattle.std.specs.Map.{keys_of}
use Rattle.indexmap.specs.IndexMap.{set_value_at}
use Rattle.tl_spec.proofs.Tree.Pairs.{keys-set_value_at}
use Rattle.tl_inline.specs.Inner.HeapForm.{form_entries, form_with_value_at}
use Rattle.tl_inline.specs.declared.inline.hashmap.heap.form.HeapForm.{HeapForm}
use Rattle.tl_inline.specs.declared.inline.hashmap.heap.form.HeapForm.TheVariants.{Indexed, Noted}

module _ {K V : Type 0} where
  -- a write by index is one in the list
  pub entries_with_value : (f : HeapForm K V) (i : ℕ) (w : V) → form_entries (form_with_value_at f i w) ≡ set_value_at (form_entries f) i w
  entries_with_value (Indexed m) i w = refl
  entries_with_value (Noted es) i w = refl

  -- and leaves the keys
  pub distinct_with_value : (eq : K → K → Bool) (f : HeapForm K V) (i : ℕ) (w : V) → IsDistinct eq (keys_of (form_entries f))
      → IsDistinct eq (keys_of (form_entries (form_with_value_at f i w)))
  distinct_with_value eq f i w s =
      subst (IsDistinct eq) (sym (ap keys_of (entries_with_value f i w) ∙ keys-set_value_at eq (form_entries f) i w)) s
