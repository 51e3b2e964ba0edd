-- The search for the nodes of a selector finds them all, and no others.
use Rattle.std.proofs.Common.{◌≡◌, ◌↔◌, ◌<◌, ◌≤◌, ℕ, zero, suc, ◌+◌, ◌&&◌, ◌⊎◌, inl, inr, Bool, true, false, cond, nat_eq, nat_lt, nat_le, List, [], ◌∷◌, length, filter, None, Some, option_map, slice_get, refl, sym, ap, ◌∙◌, subst, arith, leb-true, le-leb, Decides, Contains, IsSomeAnd, ⊎_elim}
use Rattle.std.specs.List.{list_any, range_with_len}
use Rattle.std.specs.Option.{option_map_or}
use Rattle.std.proofs.lemmas.Bool.Decides.{Decides-like, Decides-and, Decides-or, Decides-eqb, Decides-ltb, eqb_tells, leb_tells}
use Rattle.std.proofs.lemmas.List.FromFn.{length-range_with_len, get_or-range_with_len}
use Rattle.std.proofs.lemmas.Option.{slice_get-get_or, slice_get_past, same_Some, none-some}
use Rattle.tl_spec.specs.Tree.Document.{Node}
use Rattle.tl_spec.specs.Tree.Element.{children_of}
use Rattle.tl_spec.specs.Lookup.Scan.{places_from, PassesAt, ArePlaces}
use Rattle.tl_spec.specs.Select.Selector.{Selector, And, Or, Descendant, Parent}
use Rattle.tl_spec.specs.Select.Meaning.{HoldsAlone, IsChild, IsChain, IsBelow, Holds, AreMatches}
use Rattle.tl_spec.specs.Select.Search.{holds_alone, node_numbers, is_child, is_below_by, is_below, holds, matches_between}
use Rattle.tl_spec.proofs.Lookup.Scans.{places_are, places_only}
use Rattle.tl_spec.proofs.Select.Tests.{any-contained, some-passes, holds_alone-is}

-- a number from a on is a or comes after it
next : (a x : ℕ) → a ≤ x → (x ≡ a) ⊎ (a + 1 ≤ x)
next a x h = elim (eqb_tells x a) [ inl w ↦ inl w.1 | inr w ↦ inr (omega (arith, h, w.1)) ]

-- some number from a on passes a test, of n numbers
any-number : (p : ℕ → Bool) (P : ℕ → Type 0) → ((m : ℕ) → Decides (p m) (P m)) → (a n : ℕ) → Decides (list_any p (range_with_len a n)) ((m : ℕ) × (a ≤ m) × (m < a + n) × P m)
any-number p P each a zero = (λ e. cc, λ h. absurd (omega (arith, h.1, h.2)))
any-number p P each a (suc n) =
    let either = Decides-or (p a) (list_any p (range_with_len (a + 1) n)) (each a) (any-number p P each (a + 1) n) in
    Decides-like (list_any p (range_with_len a (suc n))) (λ h. ⊎_elim first later h) cases either
  where
    first : P a → (m : ℕ) × (a ≤ m) × (m < a + suc n) × P m
    first h = (a, omega arith, omega arith, h)

    later : (m : ℕ) × (a + 1 ≤ m) × (m < a + 1 + n) × P m → (m : ℕ) × (a ≤ m) × (m < a + suc n) × P m
    later h = (h.0, omega (arith, h.1), omega (arith, h.2), h.3)

    cases : (m : ℕ) × (a ≤ m) × (m < a + suc n) × P m → P a ⊎ ((m : ℕ) × (a + 1 ≤ m) × (m < a + 1 + n) × P m)
    cases h = elim (next a h.0 h.1) [ inl e ↦ inl (subst P e h.3) | inr l ↦ inr (h.0, l, omega (arith, h.2), h.3) ]

-- what stands in a list, from the front
abbrev Among : List ℕ → ℕ → Type 0
Among [] x = ⊥
Among (l ∷ ls) x = (x ≡ l) ⊎ Among ls x

among-range : (a n x : ℕ) → a ≤ x → x < a + n → Among (range_with_len a n) x
among-range a zero x low high = absurd (omega (arith, low, high))
among-range a (suc n) x low high =
    elim (next a x low) [ inl e ↦ inl e | inr l ↦ inr (among-range (a + 1) n x l (omega (arith, high))) ]

module _ (nodes : List Node) where
  is_child-is : (m n : ℕ) → Decides (is_child nodes m n) (IsChild nodes m n)
  is_child-is m n =
      let listed = some-passes (λ node. list_any (nat_eq n) (children_of node)) (λ node. Contains (children_of node) n) (λ node. any-contained nat_eq Decides-eqb n (children_of node)) (slice_get nodes m) in
      let both = Decides-and (nat_lt n (length nodes)) (option_map_or (λ node. list_any (nat_eq n) (children_of node)) (slice_get nodes m) false) (Decides-ltb n (length nodes)) listed in
      Decides-like (is_child nodes m n) (λ h. record { within = h.0; listed = h.1 }) (λ h. (h.within, h.listed)) both

  some-within : {X : Type 0} (P : X → Type 0) (xs : List X) (n : ℕ) → IsSomeAnd (slice_get xs n) P → n < length xs
  some-within P [] n h = absurd h
  some-within P (x ∷ xs) zero h = omega arith
  some-within P (x ∷ xs) (suc n) h = omega (arith, some-within P xs n h)

  -- both ends of a way are in the table
  parent-within : (m n : ℕ) → IsChild nodes m n → m < length nodes
  parent-within m n h = some-within (λ node. Contains (children_of node) n) nodes m h.listed

  chain-from : (k m n : ℕ) → IsChain nodes k m n → m < length nodes
  chain-from zero m n h = parent-within m n h
  chain-from (suc k) m n h = chain-from k m h.0 h.1

  chain-to : (k m n : ℕ) → IsChain nodes k m n → n < length nodes
  chain-to zero m n h = h.within
  chain-to (suc k) m n h = h.2.within

  -- a way with no node between its ends but some of a list
  abbrev IsBelowBy : List ℕ → ℕ → ℕ → Type 0
  IsBelowBy [] m n = IsChild nodes m n
  IsBelowBy (l ∷ ls) m n = IsBelowBy ls m n ⊎ (IsBelowBy ls m l × IsBelowBy ls l n)

  is_below_by-is : (ls : List ℕ) (m n : ℕ) → Decides (is_below_by nodes ls m n) (IsBelowBy ls m n)
  is_below_by-is [] m n = is_child-is m n
  is_below_by-is (l ∷ ls) m n =
      Decides-or (is_below_by nodes ls m n) (is_below_by nodes ls m l && is_below_by nodes ls l n) (is_below_by-is ls m n)
      (Decides-and (is_below_by nodes ls m l) (is_below_by nodes ls l n) (is_below_by-is ls m l) (is_below_by-is ls l n))

  child-below : (ls : List ℕ) (m n : ℕ) → IsChild nodes m n → IsBelowBy ls m n
  child-below [] m n h = h
  child-below (l ∷ ls) m n h = inl (child-below ls m n h)

  -- two ways that meet at a node of the list make one
  to-first : (l : ℕ) (ls : List ℕ) (m : ℕ) → IsBelowBy (l ∷ ls) m l → IsBelowBy ls m l
  to-first l ls m (inl h) = h
  to-first l ls m (inr h) = h.0

  from-first : (l : ℕ) (ls : List ℕ) (n : ℕ) → IsBelowBy (l ∷ ls) l n → IsBelowBy ls l n
  from-first l ls n (inl h) = h
  from-first l ls n (inr h) = h.1

  joined : (ls : List ℕ) (x m n : ℕ) → Among ls x → IsBelowBy ls m x → IsBelowBy ls x n → IsBelowBy ls m n
  joined [] x m n a h g = absurd a
  joined (l ∷ ls) x m n (inl e) h g =
      inr (to-first l ls m (subst (λ y. IsBelowBy (l ∷ ls) m y) e h), from-first l ls n (subst (λ y. IsBelowBy (l ∷ ls) y n) e g))
  joined (l ∷ ls) x m n (inr a) (inl h) (inl g) = inl (joined ls x m n a h g)
  joined (l ∷ ls) x m n (inr a) (inl h) (inr g) = inr (joined ls x m l a h g.0, g.1)
  joined (l ∷ ls) x m n (inr a) (inr h) (inl g) = inr (h.0, joined ls x l n a h.1 g)
  joined (l ∷ ls) x m n (inr a) (inr h) (inr g) = inr (h.0, g.1)

  chain-below : (k m n : ℕ) → IsChain nodes k m n → IsBelowBy (node_numbers nodes) m n
  chain-below zero m n h = child-below (node_numbers nodes) m n h
  chain-below (suc k) m n h =
      joined (node_numbers nodes) h.0 m n (among-range 0 (length nodes) h.0 (omega arith) (omega (arith, chain-to k m h.0 h.1)))
      (chain-below k m h.0 h.1)
      (child-below (node_numbers nodes) h.0 n h.2)

  -- and a way is a chain
  below-then : (m l n k : ℕ) → IsBelow nodes m l → IsChain nodes k l n → IsBelow nodes m n
  below-then m l n zero h g = (suc h.0, (l, h.1, g))
  below-then m l n (suc k) h g = let first = below-then m l g.0 k h g.1 in (suc first.0, (g.0, first.1, g.2))

  by-below : (ls : List ℕ) (m n : ℕ) → IsBelowBy ls m n → IsBelow nodes m n
  by-below [] m n h = (0, h)
  by-below (l ∷ ls) m n (inl h) = by-below ls m n h
  by-below (l ∷ ls) m n (inr h) = let second = by-below ls l n h.1 in below-then m l n second.0 (by-below ls m l h.0) second.1

  is_below-is : (m n : ℕ) → Decides (is_below nodes m n) (IsBelow nodes m n)
  is_below-is m n = Decides-like (is_below nodes m n) (by-below (node_numbers nodes) m n) (λ h. chain-below h.0 m n h.1) (is_below_by-is (node_numbers nodes) m n)

  -- some ancestor where a selector holds
  ancestor-is : (p : ℕ → Bool) (P : ℕ → Type 0) → ((m : ℕ) → Decides (p m) (P m)) → (r : ℕ → ℕ → Bool) (R : ℕ → ℕ → Type 0) → ((m n : ℕ) → Decides (r m n) (R m n)) → ((m n : ℕ) → R m n → m < length nodes)
      → (n : ℕ) → Decides (list_any (λ m. p m && r m n) (node_numbers nodes)) ((m : ℕ) × P m × R m n)
  ancestor-is p P holding r R related within n =
      Decides-like (list_any (λ m. p m && r m n) (node_numbers nodes)) (λ h. (h.0, h.3.0, h.3.1)) (λ h. (h.0, omega arith, omega (arith, within h.0 n h.2), (h.1, h.2)))
      (any-number (λ m. p m && r m n) (λ m. P m × R m n) (λ m. Decides-and (p m) (r m n) (holding m) (related m n)) 0 (length nodes))

  base-is : (e : Selector) (n : ℕ) → Decides (option_map_or (holds_alone e) (slice_get nodes n) false) (IsSomeAnd (slice_get nodes n) (HoldsAlone e))
  base-is e n = some-passes (holds_alone e) (HoldsAlone e) (holds_alone-is e) (slice_get nodes n)

  pub holds-is : (e : Selector) (n : ℕ) → Decides (holds nodes e n) (Holds nodes e n)
  holds-is (And a b) n = Decides-and (holds nodes a n) (holds nodes b n) (holds-is a n) (holds-is b n)
  holds-is (Or a b) n = Decides-or (holds nodes a n) (holds nodes b n) (holds-is a n) (holds-is b n)
  holds-is (Descendant a b) n =
      Decides-like (holds nodes (Descendant a b) n) (λ h. (h.0, h.1.0, h.1.1, h.1.2)) (λ h. (h.0, (h.1, h.2, h.3)))
      (Decides-and (holds nodes b n) (list_any (λ m. holds nodes a m && is_below nodes m n) (node_numbers nodes)) (holds-is b n)
      (ancestor-is (holds nodes a) (Holds nodes a) (holds-is a) (is_below nodes) (IsBelow nodes) is_below-is (λ m n h. chain-from h.0 m n h.1) n))
  holds-is (Parent a b) n =
      Decides-like (holds nodes (Parent a b) n) (λ h. (h.0, h.1.0, h.1.1, h.1.2)) (λ h. (h.0, (h.1, h.2, h.3)))
      (Decides-and (holds nodes b n) (list_any (λ m. holds nodes a m && is_child nodes m n) (node_numbers nodes)) (holds-is b n)
      (ancestor-is (holds nodes a) (Holds nodes a) (holds-is a) (is_child nodes) (IsChild nodes) is_child-is parent-within n))
  holds-is e n = base-is e n

  holds-within : (e : Selector) (n : ℕ) → Holds nodes e n → n < length nodes
  holds-within (And a b) n h = holds-within a n h.0
  holds-within (Or a b) n (inl h) = holds-within a n h
  holds-within (Or a b) n (inr h) = holds-within b n h
  holds-within (Descendant a b) n h = holds-within b n h.0
  holds-within (Parent a b) n h = holds-within b n h.0
  holds-within e n h = some-within (HoldsAlone e) nodes n h

-- each number of a table stands at its own place, so a filter of numbers gives places
number-at : (a n i : ℕ) → i < n → slice_get (range_with_len a n) i ≡ Some (a + i)
number-at a n i h = slice_get-get_or (range_with_len a n) i 0 (omega (arith, h, length-range_with_len a n)) ∙ ap Some (get_or-range_with_len a n i 0 h)

filter-places : (p : ℕ → Bool) (a n : ℕ) → filter p (range_with_len a n) ≡ places_from p a (range_with_len a n)
filter-places p a zero = refl
filter-places p a (suc n) = ap (λ ns. cond (p a) (a ∷ ns) ns) (filter-places p (a + 1) n)

answer-at : (p : ℕ → Bool) (n i : ℕ) → i < n → option_map p (slice_get (range_with_len 0 n) i) ≡ Some (p i)
answer-at p n i h = let same : 0 + i ≡ i = omega arith in ap (option_map p) (number-at 0 n i h) ∙ ap (λ j. Some (p j)) same

answer-drop_while : (p : ℕ → Bool) (n i : ℕ) → n ≤ i → option_map p (slice_get (range_with_len 0 n) i) ≡ None
answer-drop_while p n i h = ap (option_map p) (slice_get_past (range_with_len 0 n) i (omega (arith, h, length-range_with_len 0 n)))

passes-is : (p : ℕ → Bool) (n i : ℕ) → PassesAt p (range_with_len 0 n) i ↔ ((i < n) × (p i ≡ true))
passes-is p n i = (forth, λ h. answer-at p n i h.0 ∙ ap Some h.1)
  where
    forth : PassesAt p (range_with_len 0 n) i → (i < n) × (p i ≡ true)
    forth h = elim (leb_tells (suc i) n) [
      | inl w ↦ (w.1, same_Some (p i) true (sym (answer-at p n i w.1) ∙ h))
      | inr w ↦ absurd (none-some true (sym (answer-drop_while p n i (omega (arith, w.1))) ∙ h))
    ]

module _ (nodes : List Node) (e : Selector) (from to : ℕ) where
  abbrev passes : ℕ → Bool
  passes n = nat_le from n && nat_lt n to && holds nodes e n

  abbrev Passes : ℕ → Type 0
  Passes n = (from ≤ n) × (n < to) × Holds nodes e n

  passes-decided : (n : ℕ) → Decides (passes n) (Passes n)
  passes-decided n =
      Decides-like (passes n) (λ h. (h.0.0, h.0.1, h.1)) (λ h. ((h.0, h.1), h.2))
      (Decides-and (nat_le from n && nat_lt n to) (holds nodes e n)
      (Decides-and (nat_le from n) (nat_lt n to) (leb-true from n, le-leb from n) (Decides-ltb n to))
      (holds-is nodes e n))

  passing : (n : ℕ) → Passes n ↔ PassesAt passes (node_numbers nodes) n
  passing n = let at = passes-is passes (length nodes) n in (λ h. at.1 (holds-within nodes e n h.2, (passes-decided n).1 h), λ h. (passes-decided n).0 (at.0 h).1)

  pub matches-only : (ns : List ℕ) → AreMatches nodes e from to ns → ns ≡ matches_between nodes e from to
  matches-only ns h =
      let places : ArePlaces passes (node_numbers nodes) ns = record { rising = h.rising; passing = λ n. (λ c. (passing n).0 ((h.each n).0 c), λ g. (h.each n).1 ((passing n).1 g)) } in
      places_only passes (node_numbers nodes) ns places ∙ sym (filter-places passes 0 (length nodes))

  pub matches-are : (ns : List ℕ) → ns ≡ matches_between nodes e from to → AreMatches nodes e from to ns
  matches-are ns h =
      let places = places_are passes (node_numbers nodes) ns (h ∙ filter-places passes 0 (length nodes)) in
      record { rising = places.rising; each = λ n. (λ c. (passing n).1 ((places.passing n).0 c), λ g. (places.passing n).1 ((passing n).0 g)) }
