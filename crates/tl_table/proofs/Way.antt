-- The way along last children, one step on, and what is known of its path.
use Rattle.std.proofs.Common.{◌≡◌, ℕ, ◌+◌, ◌<◌, Bool, true, false, cond, ◌||◌, List, [], ◌∷◌, length, get_or, set, slice_get, Option, Some, None, Result, Ok, Err, refl, ap, sym, ◌∙◌, subst, arith, inl, inr, ne_eqb, ltb-true, nat_lt, map, zero, suc}
use Rattle.std.specs.Prelude.{⊤, sum_by, option_map, IfSome}
use Rattle.std.specs.Option.{option_and_then}
use Rattle.std.specs.List.{last_or, AllByRecursion}
use Rattle.std.proofs.lemmas.Bool.Decides.{eqb_tells}
use Rattle.std.proofs.lemmas.List.{get_or-set_same, get_or-set_other, length-set}
use Rattle.std.proofs.lemmas.List.Elements.{recursion_from_All}
use Rattle.std.proofs.lemmas.List.Sums.{sum_by-set}
use Rattle.std.proofs.lemmas.Option.{option_and_then_some, slice_get-map, slice_get-get_or, slice_get_within}
use Rattle.tl_spec.specs.Tree.Document.{Node, Raw, Comment, Tag}
use Rattle.tl_spec.specs.Tree.Element.{last_child_of}
use Rattle.tl_spec.specs.Tree.Order.{ChildrenFollowParents}
use Rattle.tl_spec.specs.Walk.Range.{handle_end, step_end, end_within, end_below, last_below, with_end, boundaries_from}
use Rattle.tl_spec.specs.Walk.{TreeFault, Dangling, Cycle, stands_on}
use Rattle.tl_table.specs.Inner.Way.{last_child_at, after_steps, Rises}
use Rattle.tl_spec.proofs.Walk.Ranges.{end-step}

module _ (nodes : List Node) (path : List ℕ) where
  step-at : (h : ℕ) (stands : Bool) (found : Option Node) → stands_on path h ≡ stands → slice_get nodes h ≡ found →
      end_below nodes path (Some h) ≡ handle_end nodes (end_below nodes (h ∷ path)) h stands found
  step-at h stands found s e = end-step nodes path (Some h) ∙ (λ i. handle_end nodes (end_below nodes (h ∷ path)) h (s i) (e i))

  module _ (h : ℕ) where
    pub past : slice_get nodes h ≡ None → end_below nodes path (Some h) ≡ Err (Dangling h)
    past e = step-at h (stands_on path h) None refl e

    module _ (x : Node) (is : slice_get nodes h ≡ Some x) where
      pub again : stands_on path h ≡ true → end_below nodes path (Some h) ≡ Err (Cycle h)
      again s = step-at h true (Some x) s is

      pub here : stands_on path h ≡ false → last_child_of x ≡ None → end_below nodes path (Some h) ≡ Ok (Some h)
      here s e = step-at h false (Some x) s is ∙ ap (end_below nodes (h ∷ path)) e ∙ end-step nodes (h ∷ path) None

      pub further : (k : ℕ) → stands_on path h ≡ false → last_child_of x ≡ Some k → end_below nodes path (Some h) ≡ end_below nodes (h ∷ path) (Some k)
      further k s e = step-at h false (Some x) s is ∙ ap (end_below nodes (h ∷ path)) e

-- what stands in a table of items that show nodes
module _ {A : Type 0} (shown : A → Node) (xs : List A) (h : ℕ) where
  pub found-at : (x : A) → true ≡ nat_lt h (length xs) → x ≡ get_or xs h x → slice_get (map shown xs) h ≡ Some (shown x)
  found-at x l e = slice_get-map shown xs h ∙ ap (option_map shown) (slice_get-get_or xs h x (ltb-true h (length xs) (sym l)) ∙ ap Some (sym e))

-- the end is in the table
module _ (nodes : List Node) (k : ℕ) where
  Inside : List ℕ → Type 0
  Inside path = IfSome (slice_get path 0) (λ h. h < length nodes)

  inside-step : (further : List ℕ → Option ℕ → Result (Option ℕ) TreeFault) → ((path : List ℕ) (last : Option ℕ) → Inside path → further path last ≡ Ok (Some k) → k < length nodes) →
      (path : List ℕ) (last : Option ℕ) → Inside path → step_end nodes further path last ≡ Ok (Some k) → k < length nodes
  unfolding Inside
  inside-step further i [] None h e = absurd (cc)
  inside-step further i (g ∷ path) None h e = let same : g ≡ k = cc in omega (arith, h)
  inside-step further i path (Some g) h e = go (stands_on path g) (slice_get nodes g) refl e
    where
      go : (stands : Bool) (found : Option Node) → slice_get nodes g ≡ found → handle_end nodes (further (g ∷ path)) g stands found ≡ Ok (Some k) → k < length nodes
      go stands None is e = absurd (cc)
      go true (Some x) is e = absurd (cc)
      go false (Some x) is e = i (g ∷ path) (last_child_of x) (slice_get_within nodes g x is) e

  inside-within : (n : ℕ) (path : List ℕ) (last : Option ℕ) → Inside path → end_within nodes n path last ≡ Ok (Some k) → k < length nodes
  unfolding Inside
  inside-within zero path last h e = inside-step (λ before next. Ok (slice_get before 0)) (λ before next b f. inside-step (λ _ _. Ok None) (λ _ _ _ x. absurd (cc)) before None b f) path last h e
  inside-within (suc n) path last h e = inside-step (end_within nodes n) (inside-within n) path last h e

  pub end-inside : (last : Option ℕ) → last_below nodes last ≡ Ok (Some k) → k < length nodes
  unfolding Inside
  end-inside last e = inside-within (length nodes) [] last tt e

  without_start : Result (Option (ℕ × ℕ)) TreeFault → Result (Option ℕ) TreeFault
  without_start (Ok (Some both)) = Ok (Some both.1)
  without_start (Ok None) = Ok None
  without_start (Err fault) = Err fault

  ended : (first : Option ℕ) (from : ℕ) (last : Result (Option ℕ) TreeFault) → with_end first last ≡ Ok (Some (from, k)) → last ≡ Ok (Some k)
  unfolding without_start
  ended None from last e = absurd (cc)
  ended (Some g) from (Ok None) e = absurd (cc)
  ended (Some g) from (Ok (Some h)) e = ap without_start e
  ended (Some g) from (Err fault) e = absurd (cc)

  pub boundaries-inside : (first last : Option ℕ) (from : ℕ) → boundaries_from nodes first last ≡ Ok (Some (from, k)) → k < length nodes
  boundaries-inside first last from e = end-inside last (ended first from (last_below nodes last) e)

-- each handle of the path is below this one
abbrev pub AreBelow : ℕ → List ℕ → Type 0
AreBelow h [] = ⊤
AreBelow h (k ∷ path) = (k < h) × AreBelow h path

pub below-off : (h : ℕ) (path : List ℕ) → AreBelow h path → stands_on path h ≡ false
below-off h [] b = refl
below-off h (k ∷ path) b = rw (ne_eqb k h (omega (arith, b.0))) (below-off h path b.1)

pub below-above : (h m : ℕ) (path : List ℕ) → h < m → AreBelow h path → AreBelow m path
below-above h m [] l b = tt
below-above h m (k ∷ path) l b = (omega (arith, b.0), below-above h m path l b.1)

-- the last one passes where all do
last-passes : (P : ℕ → Type 0) (j k : ℕ) (xs : List ℕ) → P j → AllByRecursion P xs → last_or (Some j) xs ≡ Some k → P k
last-passes P j k [] p all e = let same : j ≡ k = cc in subst P same p
last-passes P j k (x ∷ xs) p all e = last-passes P x k xs all.0 all.1 e

last-child : (P : ℕ → Type 0) (k : ℕ) (xs : List ℕ) → AllByRecursion P xs → last_or None xs ≡ Some k → P k
last-child P k [] all e = absurd (cc)
last-child P k (x ∷ xs) all e = last-passes P x k xs all.0 all.1 e

-- so a last child is above its parent where all children are
pub child-above : (nodes : List Node) → ChildrenFollowParents nodes → (h k : ℕ) (x : Node) → slice_get nodes h ≡ Some x → last_child_of x ≡ Some k → h < k
child-above nodes above h k (Tag own) is e = last-child (λ c. h < c) k own.children.items (recursion_from_All (λ c. h < c) own.children.items (above h own is)) e
child-above nodes above h k (Raw bytes) is e = absurd (cc)
child-above nodes above h k (Comment bytes) is e = absurd (cc)

-- the handle of a node with a last child is below that one where all children are above
child-at-above : (nodes : List Node) → ChildrenFollowParents nodes → (h k : ℕ) → last_child_at nodes h ≡ Some k → h < k
child-at-above nodes above h k e = option_and_then_some last_child_of (slice_get nodes h) k e (λ x is last. child-above nodes above h k x is last)

-- so each way rises then
pub all_rise : (nodes : List Node) → ChildrenFollowParents nodes → (last : Option ℕ) → Rises nodes last
all_rise nodes above last n h k here next =
    child-at-above nodes above h k (sym (ap (option_and_then (last_child_at nodes)) here) ∙ next)

-- one step further on the way
module _ (nodes : List Node) (last : Option ℕ) (n h k : ℕ) (x : Node) where
  pub steps-on : after_steps nodes last n ≡ Some h → slice_get nodes h ≡ Some x → last_child_of x ≡ Some k → after_steps nodes last (suc n) ≡ Some k
  steps-on here is child = ap (option_and_then (last_child_at nodes)) here ∙ ap (option_and_then last_child_of) is ∙ child

-- a mark for each handle of the path, and no others, among n
pub record AreMarks (n : ℕ) (path : List ℕ) (marks : List Bool) : Type 0 where
  pub long : length marks ≡ n
  pub tell : (k : ℕ) (d : Bool) → k < n → get_or marks k d ≡ stands_on path k

pub one-more : (n : ℕ) (path : List ℕ) (marks : List Bool) (h : ℕ) → h < n → AreMarks n path marks → AreMarks n (h ∷ path) (set marks h true)
one-more n path marks h l m = record {
  long = length-set marks h true ∙ m.long;
  tell = λ k d within. elim (eqb_tells h k) [
    | inl p ↦ (
        let inside : h < length marks = omega (arith, m.long) in
        ap (λ j. get_or (set marks h true) j d) (sym p.1) ∙ get_or-set_same marks h true d inside ∙ ap (λ b. b || stands_on path k) (sym p.0))
    | inr p ↦ get_or-set_other marks h k true d (λ e. p.1 (sym e)) ∙ m.tell k d within ∙ ap (λ b. b || stands_on path k) (sym p.0)
  ];
}

-- how many places have no mark
abbrev pub unmarked : List Bool → ℕ
unmarked marks = sum_by (λ b. cond b 0 1) marks

pub fewer : (marks : List Bool) (h : ℕ) → h < length marks → get_or marks h false ≡ false → unmarked (set marks h true) < unmarked marks
fewer marks h l e =
    let both : unmarked (set marks h true) + cond (get_or marks h false) 0 1 ≡ unmarked marks + 0 = sum_by-set (λ b. cond b 0 1) marks h true false l in
    let one : unmarked (set marks h true) + 1 ≡ unmarked marks + 0 = rw e at both in
    omega arith
