-- How a search goes on, and how it stops.
use Rattle.std.proofs.Common.{◌≡◌, ℕ, Bool, true, false, List, [], ◌∷◌, Option, Some, Result, Ok, Err, refl, ap, inl, inr}
use Rattle.std.specs.Borrow.{Bor}
use Rattle.std.specs.Fn.{CalledAt, Mut}
use Rattle.std.specs.List.{slice_get}
use Rattle.tl_spec.specs.Walk.{Event as SpecEvent}
use Rattle.tl_table.specs.declared.errors.TreeError.{TreeError}
use Rattle.tl_table.specs.declared.errors.TreeError.TheVariants.{Dangling as DanglingError, Cycle as CycleError, OutOfMemory}
use Rattle.tl.specs.Find.{FindsNode, FindsNodeOrStops, Passes, Sight, sight, sight_of, sights}
use Rattle.tl.specs.View.{HTMLNode}
use Rattle.tl.specs.Walker.{Refuses}

module _ {F : Type 0} (calls : Mut F (Bor HTMLNode × Unit {0}) Bool) where
  -- a search that has shown nothing yet
  waits : (p : F) (seen : List Sight) → Passes calls p seen p
  waits p [] = refl
  waits p (Err e ∷ later) = refl
  waits p (Ok v ∷ later) = inl refl

  -- for memory, or at a fault
  pub stopped : (p : F) (nodes : List HTMLNode) (es : List SpecEvent) (e : TreeError) → Refuses es e → FindsNodeOrStops calls p (sights nodes es) (Err e) p
  stopped p nodes es (DanglingError h) (rest, is) = rw is (inl (refl, refl))
  stopped p nodes es (CycleError h) (rest, is) = rw is (inl (refl, refl))
  stopped p nodes es OutOfMemory any = inr (refl, waits p (sights nodes es))

  -- at a node
  pub found : (p q : F) (nodes : List HTMLNode) (h : ℕ) (node : HTMLNode) (later : List Sight) → slice_get nodes h ≡ Some node → CalledAt calls p node true q →
      FindsNode calls p (sight nodes h ∷ later) (Ok (Some h)) q
  found p q nodes h node later is called = let seen : sight nodes h ≡ Ok (h, node) = ap (sight_of h) is in rw seen (inl (called, refl))

  -- after a node
  pub went_on : (p m q : F) (nodes : List HTMLNode) (h : ℕ) (node : HTMLNode) (later : List Sight) (r : Result (Option ℕ) TreeError) →
      slice_get nodes h ≡ Some node → CalledAt calls p node false m → FindsNode calls m later r q → FindsNode calls p (sight nodes h ∷ later) r q
  went_on p m q nodes h node later r is called rest = let seen : sight nodes h ≡ Ok (h, node) = ap (sight_of h) is in rw seen (inr (m, called, rest))

  -- the same where memory may run out
  pub passed : (p m q : F) (nodes : List HTMLNode) (h : ℕ) (node : HTMLNode) (later : List Sight) (r : Result (Option ℕ) TreeError) →
      slice_get nodes h ≡ Some node → CalledAt calls p node false m → FindsNodeOrStops calls m later r q → FindsNodeOrStops calls p (sight nodes h ∷ later) r q
  passed p m q nodes h node later r is called (inl rest) = inl (went_on p m q nodes h node later r is called rest)
  passed p m q nodes h node later r is called (inr (o, rest)) = let seen : sight nodes h ≡ Ok (h, node) = ap (sight_of h) is in rw seen (inr (o, inr (m, called, rest)))
