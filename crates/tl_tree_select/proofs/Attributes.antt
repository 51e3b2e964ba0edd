-- Whether something holds of some of the attributes of an element, one after the other.
use Rattle.std.proofs.Common.{◌≡◌, ◌↔◌, ◌∷◌, ◌<◌, ℕ, zero, suc, List, [], arith, length, refl, subst, sym}
use Rattle.std.specs.List.{Any, slice_index_or}

module _ {X : Type 0} (P : X → Type 0) where
  pub any_none : Any P [] → ⊥
  any_none a = let lt = a.2 in absurd (omega (arith, lt))

  -- it holds of the first one
  pub any_first : (x : X) (xs all : List X) → all ≡ x ∷ xs → P x → Any P all
  any_first x xs all e h = subst (Any P) (sym e) (0, x, omega arith, refl, h)

  behind_first : (x : X) (xs : List X) (k : ℕ) (y : X) → (P x → ⊥) → k < length (x ∷ xs) → slice_index_or (x ∷ xs) k y ≡ y → P y → Any P xs
  behind_first x xs zero y not lt is h = absurd (not (subst P (sym is) h))
  behind_first x xs (suc k) y not lt is h = (k, y, omega (arith, lt), is, h)

  after_first : (x : X) (xs : List X) → Any P xs → Any P (x ∷ xs)
  after_first x xs a = let lt = a.2 in (suc a.0, a.1, omega (arith, lt), a.3, a.4)

  -- it doesn't: so it holds of some where it holds of some others
  pub any_next : (x : X) (xs all : List X) → all ≡ x ∷ xs → (P x → ⊥) → Any P all ↔ Any P xs
  any_next x xs all e not = (
    λ a. (let b = subst (Any P) e a in behind_first x xs b.0 b.1 not b.2 b.3 b.4),
    λ a. subst (Any P) (sym e) (after_first x xs a),
  )
