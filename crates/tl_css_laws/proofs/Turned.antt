-- A selector turned twice holds where it held, on a table where it can be found.
use Rattle.std.proofs.Math.Dec.{eqb}
use Rattle.std.proofs.Common.{◌≡◌, ◌≢◌, ◌⊎◌, true, false, subst, ℕ, List, [], ◌∷◌, inl, inr}
use Rattle.std.proofs.lemmas.Bool.Decides.{eqb_tells}
use Rattle.std.specs.List.{Contains}
use Rattle.std.specs.Prelude.{◌↔◌}
use Rattle.tl_spec.specs.Tree.Document.{Node}
use Rattle.tl_css.specs.Meaning.{AreFound, Holds, IsTag}
use Rattle.tl_css.specs.Selector.{Css, Is, Not, Both, Either, At, Nth}
use Rattle.tl_css_laws.proofs.Found.{at_front, later, in_nothing, cases}

not_in : (m n : ℕ) (ns : List ℕ) → m ≢ n → (Contains ns n → ⊥) → (m ≡ n) ⊎ Contains ns n → ⊥
not_in m n ns other none (inl e) = other e
not_in m n ns other none (inr h) = none h

-- whether a number is in a list can be told
pub tells : (ns : List ℕ) (n : ℕ) → Contains ns n ⊎ (Contains ns n → ⊥)
tells [] n = inr (in_nothing n)
tells (m ∷ ns) n = by_front (eqb_tells m n) (tells ns n)
  where
    by_front : ((eqb m n ≡ true) × (m ≡ n)) ⊎ ((eqb m n ≡ false) × (m ≢ n)) → Contains ns n ⊎ (Contains ns n → ⊥)
        → Contains (m ∷ ns) n ⊎ (Contains (m ∷ ns) n → ⊥)
    by_front (inl same) rest = inl (subst (λ (k : ℕ). Contains (m ∷ ns) k) same.1 (at_front m ns))
    by_front (inr other) (inl h) = inl (later m ns n h)
    by_front (inr other) (inr none) = inr (λ h. not_in m n ns other.1 none (cases m ns n h))

-- a selector holds at tags alone
pub holds_at_tag : (nodes : List Node) (e : Css) (n : ℕ) → Holds nodes e n → IsTag nodes n
holds_at_tag nodes (Is test) n h = h.0
holds_at_tag nodes (Not e) n h = h.0
holds_at_tag nodes (Both a b) n h = holds_at_tag nodes a n h.0
holds_at_tag nodes (Either a b) n (inl h) = holds_at_tag nodes a n h
holds_at_tag nodes (Either a b) n (inr h) = holds_at_tag nodes b n h
holds_at_tag nodes (At y l r e) n h = h.0
holds_at_tag nodes (Nth y l formula e) n h = holds_at_tag nodes e n h.0

pub turned_twice : (nodes : List Node) (e : Css) (ns : List ℕ) → AreFound nodes e ns → (n : ℕ) → Holds nodes (Not (Not e)) n ↔ Holds nodes e n
turned_twice nodes e ns found n = (back (tells ns n), λ h. (holds_at_tag nodes e n h, λ no. no.1 h))
  where
    back : Contains ns n ⊎ (Contains ns n → ⊥) → Holds nodes (Not (Not e)) n → Holds nodes e n
    back (inl h) twice = (found.each n).0 h
    back (inr none) twice = absurd (twice.1 (twice.0, λ h. none ((found.each n).1 h)))
