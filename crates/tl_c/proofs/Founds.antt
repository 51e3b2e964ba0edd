-- What selectors find is one, and has numbers of rows.
use Rattle.std.proofs.Common.{◌≡◌, ◌↔◌, ◌<◌, ◌≤◌, ◌∙◌, ℕ, zero, suc, Bool, List, Option, None, Some, ap, arith, inl, inr, refl, subst, sym, true}
use Rattle.std.specs.Option.{option_map}
use Rattle.std.specs.Prelude.{MatchOption}
use Rattle.tl_css.specs.Selector.{Css}
use Rattle.tl_css.specs.declared.selector.Link.TheVariants.{Parent}
use Rattle.tl_css.specs.declared.selector.Way.TheVariants.{From}
use Rattle.tl_tree.specs.declared.tree.Tree.{Tree}
use Rattle.tl_tree_select.proofs.Founds.{same}
use Rattle.tl_tree_select.proofs.Trees.{AreParentsBefore, tree_up}
use Rattle.tl_tree_select.specs.Meaning.{AreFoundBelow, AreLinks, Holds, IsClosest, IsFirst, IsFound, IsUpTo}
use Rattle.tl_tree_select.specs.Page.{Page, page_from, page_of}
use Rattle.tl_c.specs.Queries.{short}
use Rattle.tl_c.proofs.Rows.{holds_within, short_same}

module _ (page : Page) where
  linked_before : AreParentsBefore page → (k m n : ℕ) → AreLinks page Parent k m n → m < n
  linked_before up zero m n link = up n m link.0.1
  linked_before up (suc k) m n (j, link, more) =
      let near = up n j link.0.1 in let far = linked_before up k m j more in omega (arith, near, far)

  up_to : AreParentsBefore page → (m n : ℕ) → IsUpTo page From Parent m n → m ≤ n
  up_to up m n (inl e) = omega (arith, e)
  up_to up m n (inr (k, links)) = let before = linked_before up k m n links in omega (arith, before)

  -- nothing, or the innermost one
  abbrev pub Closest : Css → ℕ → Option ℕ → Type 0
  Closest e node number = MatchOption number ((m : ℕ) → IsUpTo page From Parent m node → Holds page e m → ⊥) (IsClosest page e node)

  pub closest_once : AreParentsBefore page → (e : Css) (node : ℕ) (a b : Option ℕ) → Closest e node a → Closest e node b → a ≡ b
  closest_once up e node None None h g = refl
  closest_once up e node None (Some m) h g = absurd (h m g.around g.holds)
  closest_once up e node (Some n) None h g = absurd (g n h.around h.holds)
  closest_once up e node (Some n) (Some m) h g =
      let one = up_to up m n (h.innermost m g.around g.holds) in
      let other = up_to up n m (g.innermost n h.around h.holds) in
      let same : n ≡ m = omega (arith, one, other) in ap Some same

  abbrev pub First : Css → Option ℕ → Type 0
  First e number = MatchOption number ((n : ℕ) → IsFound page e n → ⊥) (IsFirst page e)

  pub first_once : (e : Css) (a b : Option ℕ) → First e a → First e b → a ≡ b
  first_once e None None h g = refl
  first_once e None (Some m) h g = absurd (h m g.found)
  first_once e (Some n) None h g = absurd (g n h.found)
  first_once e (Some n) (Some m) h g =
      let one = h.first m g.found in let other = g.first n h.found in
      let same : n ≡ m = omega (arith, one, other) in ap Some same

  pub below_once : (e : Css) (outer : ℕ) (ms ns : List ℕ) → AreFoundBelow page e outer ms → AreFoundBelow page e outer ns → ms ≡ ns
  below_once e outer ms ns h g =
      same ms ns h.rising g.rising (λ x c. (g.each x).1 ((h.each x).0 c)) (λ x c. (h.each x).1 ((g.each x).0 c))

-- a number that is found has 32 bits
pub closest_short : (tree : Tree) (e : Css) (node : ℕ) (number : Option ℕ) → Closest (page_from tree node) e node number → option_map short number ≡ number
closest_short tree e node None h = refl
closest_short tree e node (Some n) h = ap Some (short_same tree n (holds_within (page_from tree node) e n h.holds))

pub first_short : (tree : Tree) (e : Css) (number : Option ℕ) → First (page_of tree) e number → option_map short number ≡ number
first_short tree e None h = refl
first_short tree e (Some n) h = ap Some (short_same tree n (holds_within (page_of tree) e n h.found.0))
