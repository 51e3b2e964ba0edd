-- Walks below handles that rise: they don't look at their path, so they go one handle on.
use Rattle.std.proofs.Common.{◌≡◌, ℕ, zero, suc, ◌+◌, ◌<◌, Bool, true, false, List, [], ◌∷◌, length, drop, slice_get, Option, Some, None, option_map, refl, ap, ap₂, sym, ◌∙◌, arith, length-append}
use Rattle.std.specs.List.{All, AllByRecursion}
use Rattle.tl_spec.specs.Tree.Document.{Node, Tag, Raw, Comment, TagNode}
use Rattle.tl_spec.specs.Walk.Length.{met, handle_met}
use Rattle.tl_spec.specs.Tree.Order.{ChildrenFollowParents}
use Rattle.tl_spec.specs.Walk.{Walk, end, all_tags, handle_walk, meets_tag, row_walk, stands_on, visits, walk, walk_within}
use Rattle.tl_spec.proofs.Tree.Order.{AreBelow, AreBelow-le, off_path}
use Rattle.tl_spec.proofs.Walk.Walks.{walk-cons}

-- each handle is above those of the path
abbrev Each : List ℕ → List ℕ → Type 0
Each path hs = AllByRecursion (λ h. AreBelow h path) hs

each-none : (hs : List ℕ) → Each [] hs
each-none [] = tt
each-none (h ∷ hs) = (tt, each-none hs)

each-above : (path : List ℕ) (h : ℕ) → AreBelow h path → (cs : List ℕ) → All (λ c. h < c) cs → Each (h ∷ path) cs
each-above path h b [] all = tt
each-above path h b (c ∷ cs) all =
    let above : h < c = all 0 c (omega arith) in
    ((above, AreBelow-le h c path (omega arith) b), each-above path h b cs (λ k d l. all (suc k) d (omega arith)))

module _ (nodes : List Node) (rising : ChildrenFollowParents nodes) where
  handle-same : (f g : List ℕ → Walk) (h : ℕ) (m : Walk) (b : Bool) (o : Option Node) → ((own : TagNode) → o ≡ Some (Tag own) → f own.children.items ≡ g own.children.items) →
      handle_walk all_tags nodes f h m b o ≡ handle_walk all_tags nodes g h m b o
  handle-same f g h m b None e = refl
  handle-same f g h m true (Some x) e = refl
  handle-same f g h m false (Some (Raw bytes)) e = refl
  handle-same f g h m false (Some (Comment bytes)) e = refl
  handle-same f g h m false (Some (Tag own)) e = ap (λ c. meets_tag h own c m) (e own refl)

  row-same : (f : List ℕ → List ℕ → Walk) (path other hs : List ℕ)
      → ((h : ℕ) (own : TagNode) → slice_get nodes h ≡ Some (Tag own) → AreBelow h path → AreBelow h other → f (h ∷ path) own.children.items ≡ f (h ∷ other) own.children.items)
      → Each path hs → Each other hs → row_walk all_tags nodes f path hs ≡ row_walk all_tags nodes f other hs
  row-same f path other [] e a b = refl
  row-same f path other (h ∷ hs) e a b =
      ap₂ (λ s m. handle_walk all_tags nodes (f (h ∷ path)) h m s (slice_get nodes h)) (off_path h path a.0 ∙ sym (off_path h other b.0)) (row-same f path other hs e a.1 b.1)
      ∙ handle-same (f (h ∷ path)) (f (h ∷ other)) h (row_walk all_tags nodes f other hs) (stands_on other h) (slice_get nodes h) (λ own is. e h own is a.0 b.0)

  -- below handles that rise a walk doesn't look at its path
  within-same : (n : ℕ) (path other hs : List ℕ) → Each path hs → Each other hs → walk_within all_tags nodes n path hs ≡ walk_within all_tags nodes n other hs
  within-same zero path other hs a b = row-same (λ _ _. end) path other hs (λ h own is x y. refl) a b
  within-same (suc n) path other hs a b =
      row-same (walk_within all_tags nodes n) path other hs
      (λ h own is x y. within-same n (h ∷ path) (h ∷ other) own.children.items
      (each-above path h x own.children.items (rising h own is)) (each-above other h y own.children.items (rising h own is))) a b

  -- one handle on
  pub walk-one : (h : ℕ) (hs : List ℕ) (o : Option Node) → slice_get nodes h ≡ o →
      walk all_tags nodes [] (h ∷ hs) ≡ handle_walk all_tags nodes (walk all_tags nodes []) h (walk all_tags nodes [] hs) false o
  walk-one h hs o is =
      walk-cons all_tags nodes [] h hs false o refl is
      ∙ handle-same (walk all_tags nodes (h ∷ [])) (walk all_tags nodes []) h (walk all_tags nodes [] hs) false o
      (λ own e. within-same (length nodes) (h ∷ []) [] own.children.items (each-above [] h tt own.children.items (rising h own (is ∙ e))) (each-none own.children.items))

  met-by-node : (h : ℕ) (hs : List ℕ) (o : Option Node) → length (visits (handle_walk all_tags nodes (walk all_tags nodes []) h (walk all_tags nodes [] hs) false o)) ≡ handle_met nodes o + met nodes hs
  met-by-node h hs None = omega arith
  met-by-node h hs (Some (Raw bytes)) = omega arith
  met-by-node h hs (Some (Comment bytes)) = omega arith
  met-by-node h hs (Some (Tag own)) = omega (arith, length-append (visits (walk all_tags nodes [] own.children.items)) (visits (walk all_tags nodes [] hs)))

  pub met-cons : (h : ℕ) (hs : List ℕ) → met nodes (h ∷ hs) ≡ handle_met nodes (slice_get nodes h) + met nodes hs
  met-cons h hs = ap (λ w. length (visits w)) (walk-one h hs (slice_get nodes h) refl) ∙ met-by-node h hs (slice_get nodes h)

-- the handle at a place, and those after it

pub drop-none : (xs : List ℕ) (i : ℕ) → slice_get xs i ≡ None → drop i xs ≡ []
drop-none [] zero h = refl
drop-none [] (suc i) h = refl
drop-none (y ∷ xs) zero h = absurd (cc)
drop-none (y ∷ xs) (suc i) h = drop-none xs i h

-- the child at a place, if there is one

abbrev pair : ℕ → ℕ → ℕ × ℕ
pair child next = (child, next)

abbrev pub given : ℕ → ℕ → Option (ℕ × ℕ)
given child next = Some (child, next)

abbrev pub following : ℕ → Option ℕ → Option (ℕ × ℕ)
following place o = option_map (λ (c : ℕ). (c, place + 1)) o
