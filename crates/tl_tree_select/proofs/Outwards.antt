-- The way from a row outwards.
use Rattle.std.proofs.Common.{◌≡◌, ℕ, zero, suc, Option, None, Some, IfSome, ◌+◌, ◌<◌, inl, inr, subst, sym, ◌∙◌, arith}
use Rattle.std.specs.Prelude.{MatchOption}
use Rattle.std.specs.Option.{option_map_or}
use Rattle.std.proofs.lemmas.Option.{same_Some}
use Rattle.tl_css.specs.Selector.{Css}
use Rattle.tl_css.specs.declared.selector.Link.TheVariants.{Parent}
use Rattle.tl_css.specs.declared.selector.Way.TheVariants.{From}
use Rattle.tl_tree_select.specs.Inner.Finding.{LeadsTo}
use Rattle.tl_tree_select.specs.Meaning.{AreLinks, Holds, IsBefore, IsClosest, IsLink, IsUpTo}
use Rattle.tl_tree_select.specs.Page.{Page}
use Rattle.tl_tree_select.proofs.Trees.{AreParentsBefore}

module _ (page : Page) where
  parents_alike : (k m n : ℕ) → IsBefore page Parent k n → IsBefore page Parent m n → k ≡ m
  parents_alike k m n a b = same_Some k m (sym a.1 ∙ b.1)

  pub is_link : (m n : ℕ) → IsBefore page Parent m n → IsLink page Parent m n
  is_link m n h = (h, λ k g. let same = parents_alike k m n g h in omega (arith, same))

  one_more : (j m at n : ℕ) → AreLinks page Parent j at n → IsBefore page Parent m at → AreLinks page Parent (suc j) m n
  one_more zero m at n h b = (at, h, is_link m at b)
  one_more (suc j) m at n h b = (h.0, h.1, one_more j m at h.0 h.2 b)

  -- the parent of a row on the way is on the way
  pub further : (m at n : ℕ) → IsUpTo page From Parent at n → IsBefore page Parent m at → IsUpTo page From Parent m n
  further m at n (inl same) b = inr (0, is_link m n (subst (IsBefore page Parent m) same b))
  further m at n (inr h) b = inr (suc h.0, one_more h.0 m at n h.1 b)

  past_link : (j k at m : ℕ) → IsBefore page Parent m at → AreLinks page Parent j k at → IsUpTo page From Parent k m
  past_link zero k at m b h = inl (parents_alike k m at h.0 b)
  past_link (suc j) k at m b h = inr (j, subst (λ (i : ℕ). AreLinks page Parent j k i) (parents_alike h.0 m at h.1.0 b) h.2)

  no_link : (j k at : ℕ) → ((m : ℕ) → IsBefore page Parent m at → ⊥) → AreLinks page Parent j k at → ⊥
  no_link zero k at none h = none k h.0
  no_link (suc j) k at none h = none h.0 h.1.0

  -- what is reached from a row where nothing holds is reached from its parent
  pub past_parent : (e : Css) (k at m : ℕ) → IsBefore page Parent m at → (Holds page e at → ⊥) → Holds page e k → IsUpTo page From Parent k at
      → IsUpTo page From Parent k m
  past_parent e k at m b isnt holds (inl same) = absurd (isnt (subst (Holds page e) same holds))
  past_parent e k at m b isnt holds (inr h) = past_link h.0 k at m b h.1

  pub past_last : (e : Css) (k at : ℕ) → ((m : ℕ) → IsBefore page Parent m at → ⊥) → (Holds page e at → ⊥) → Holds page e k → IsUpTo page From Parent k at → ⊥
  past_last e k at none isnt holds (inl same) = isnt (subst (Holds page e) same holds)
  past_last e k at none isnt holds (inr h) = no_link h.0 k at none h.1

  -- where one step outwards leads
  abbrev pub Steps : Option ℕ → ℕ → Type 0
  Steps o at = MatchOption o ((m : ℕ) → IsBefore page Parent m at → ⊥) (λ m. IsBefore page Parent m at)

  pub smaller : AreParentsBefore page → (o : Option ℕ) (at : ℕ) → Steps o at → option_map_or (λ m. m + 1) o 0 < at + 1
  smaller up None at h = omega arith
  smaller up (Some m) at h = let lt = up at m h.1 in omega (arith, lt)

  pub from_next : (o : Option ℕ) (at n : ℕ) → Steps o at → IsUpTo page From Parent at n → IfSome o (λ m. IsUpTo page From Parent m n)
  from_next None at n h around = tt
  from_next (Some m) at n h around = further m at n around h

  pub left_next : (e : Css) (k : ℕ) (o : Option ℕ) (at : ℕ) → Steps o at → (Holds page e at → ⊥) → Holds page e k → IsUpTo page From Parent k at → LeadsTo page o k
  left_next e k None at h isnt holds up = past_last e k at h isnt holds up
  left_next e k (Some m) at h isnt holds up = past_parent e k at m h isnt holds up

  pub is_closest : (e : Css) (n at : ℕ) (o : Option ℕ) → o ≡ Some at → IfSome o (λ m. IsUpTo page From Parent m n)
      → ((k : ℕ) → IsUpTo page From Parent k n → Holds page e k → LeadsTo page o k) → Holds page e at → IsClosest page e n at
  is_closest e n at o is from left holds = record {
    around = subst (λ (o : Option ℕ). IfSome o (λ m. IsUpTo page From Parent m n)) is from;
    holds = holds;
    innermost = λ k up h. subst (λ (o : Option ℕ). LeadsTo page o k) is (left k up h);
  }
