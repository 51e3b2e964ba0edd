-- Whether all children of an element count for nothing, one after the other.
use Rattle.std.proofs.Common.{◌≡◌, ◌↔◌, ◌∷◌, ℕ, zero, suc, List, [], arith, subst, sym}
use Rattle.std.specs.List.{All}

module _ (P : ℕ → Type 0) where
  pub all_none : All P []
  all_none k d w = absurd (omega (arith, w))

  first_and : (x : ℕ) (xs : List ℕ) → P x → All P xs → All P (x ∷ xs)
  first_and x xs h all zero d w = h
  first_and x xs h all (suc k) d w = all k d (omega (arith, w))

  -- the first one does: so all do where the others do
  pub all_next : (x : ℕ) (xs all : List ℕ) → all ≡ x ∷ xs → P x → All P all ↔ All P xs
  all_next x xs all e h = (
    λ a. (let b = subst (All P) e a in λ k d w. b (suc k) d (omega (arith, w))),
    λ a. subst (All P) (sym e) (first_and x xs h a),
  )

  pub first_of : (x : ℕ) (xs all : List ℕ) → all ≡ x ∷ xs → All P all → P x
  first_of x xs all e a = let b = subst (All P) e a in b 0 x (omega arith)
