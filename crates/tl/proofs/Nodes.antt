-- Facts of the nodes of a table.
use Rattle.std.proofs.Common.{◌≡◌, ℕ, zero, suc, List, [], ◌∷◌, Option, Some, None, MutBor, length, sym, refl, ap}
use Rattle.std.specs.Option.{option_copied_mut}
use Rattle.std.specs.List.{IsItemAtMut, slice_get, slice_set}
use Rattle.std.proofs.lemmas.Option.{slice_get_past, slice_get_read}

-- what `get_mut` lends is what `get` gives
pub copied_of_item : {X : Type 0} (xs : List X) (i : ℕ) (r : Option (MutBor X)) → IsItemAtMut xs i r → option_copied_mut r ≡ slice_get xs i
copied_of_item xs i None h = sym (slice_get_past xs i h.3)
copied_of_item xs i (Some x) h = sym (slice_get_read xs (length xs) i x.now refl h.3.0 h.1)

-- an item put back where it was
pub set_same : {X : Type 0} (xs : List X) (i : ℕ) (x : X) → Some x ≡ slice_get xs i → slice_set xs i x ≡ xs
set_same [] i x h = refl
set_same (y ∷ ys) zero x h = let same : x ≡ y = cc in ap (λ z. z ∷ ys) same
set_same (y ∷ ys) (suc i) x h = ap (λ l. y ∷ l) (set_same ys i x h)
