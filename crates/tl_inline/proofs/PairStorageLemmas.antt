-- What a write to the storage of a map does to what a contract sees.
use Rattle.std.proofs.Common.{◌≡◌, ℕ, Bool, Some, position, true, false, ap, sym, subst}
use Rattle.std.specs.List.{IsDistinct}
use Rattle.std.specs.Map.{keys_of}
use Rattle.tl_spec.specs.Tree.Inline.{InlineMap, with_value}
use Rattle.tl_inline.specs.Inner.PairStorage.{storage_view, storage_with_value_at}
use Rattle.tl_inline.specs.declared.inline.hashmap.storage.PairStorage.{PairStorage}
use Rattle.tl_inline.specs.declared.inline.hashmap.storage.PairStorage.TheVariants.{Inline, Heap}
use Rattle.tl_spec.proofs.Tree.Pairs.{keys-set_value_at}
use Rattle.tl_inline.proofs.Maps.{same_map, set_value-at}

module _ {K V : Type 0} {N : ℕ} (eq : K → K → Bool) where
  -- the keys that a contract sees are those of the storage
  pub distinct_in_view : (h : PairStorage K V N) (m : InlineMap K V) → storage_view h ≡ m → IsDistinct eq (keys_of (storage_view h).entries) → IsDistinct eq (keys_of m.entries)
  distinct_in_view h m was s = subst (λ (w : InlineMap K V). IsDistinct eq (keys_of w.entries)) was s

  -- a write by index leaves the keys
  pub distinct_with_value : (h : PairStorage K V N) (i : ℕ) (w : V) → IsDistinct eq (keys_of (storage_view h).entries) → IsDistinct eq (keys_of (storage_view (storage_with_value_at h i w)).entries)
  distinct_with_value (Inline m) i w s = subst (IsDistinct eq) (sym (keys-set_value_at eq m.items i w)) s
  distinct_with_value (Heap es) i w s = subst (IsDistinct eq) (sym (keys-set_value_at eq es i w)) s

  -- a write at the index of a key is one at the key
  pub view_with_value : (h : PairStorage K V N) (k : K) (i : ℕ) → Some i ≡ position (eq k) (keys_of (storage_view h).entries) → (w : V)
      → storage_view (storage_with_value_at h i w) ≡ with_value eq (storage_view h) k w
  view_with_value (Inline m) k i index w = ap (λ l. same_map l false) (set_value-at eq k w m.items i index)
  view_with_value (Heap es) k i index w = ap (λ l. same_map l true) (set_value-at eq k w es i index)
