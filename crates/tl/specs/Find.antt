-- What a search shows to its closure.
use Rattle.std.specs.Prelude.{◌≡◌, ℕ, Bool, true, false, List, [], ◌∷◌, ◌⊎◌, map, Option, Some, None, Result, Ok, Err}
use Rattle.std.specs.Borrow.{Bor}
use Rattle.std.specs.Fn.{CalledAt, Mut}
use Rattle.std.specs.List.{slice_get}
use Rattle.tl_spec.specs.Walk.{Event, meets, leaves, faulty, all_tags, walk, events}
use Rattle.tl_table.specs.declared.errors.TreeError.{TreeError}
use Rattle.tl_table.specs.declared.errors.TreeError.TheVariants.{Dangling as DanglingError, OutOfMemory}
use Rattle.tl_table.specs.TreeFault.{error_of}
use Rattle.tl.specs.declared.parser.tag.node.NodeOf.TheVariants.{Tag as ATag, Raw as ARaw, Comment as AComment}
use Rattle.tl.specs.View.{HTMLNode, node_view}

-- what a search comes to: a handle with its node, or a fault
abbrev pub Sight : Type 0
Sight = Result (ℕ × HTMLNode) TreeError

abbrev pub sight_of : ℕ → Option HTMLNode → Sight
sight_of h None = Err (DanglingError h)
sight_of h (Some node) = Ok (h, node)

-- a handle with its node of the table
abbrev pub sight : List HTMLNode → ℕ → Sight
sight nodes h = sight_of h (slice_get nodes h)

-- the nodes of the table that are met among events, and the faults
abbrev pub sights : List HTMLNode → List Event → List Sight
sights nodes [] = []
sights nodes (meets h met ∷ later) = sight nodes h ∷ sights nodes later
sights nodes (leaves own ∷ later) = sights nodes later
sights nodes (faulty fault ∷ later) = Err (error_of fault) ∷ sights nodes later

-- all that hangs below a node, in the order of the walk that enters every tag
abbrev pub sights_below : List HTMLNode → HTMLNode → List Sight
sights_below nodes (ATag tag) =
    sights nodes (events (walk all_tags (map node_view nodes) [] tag.children.items))
sights_below nodes (ARaw bytes) = []
sights_below nodes (AComment bytes) = []

module _ {F : Type 0} (calls : Mut F (Bor HTMLNode × Unit {0}) Bool) where
  -- calls lead from p to q: false at each node, up to one that is true, or to a fault, or to the
  -- end
  abbrev pub FindsNode : F → List Sight → Result (Option ℕ) TreeError → F → Type 0
  FindsNode p [] r q = (r ≡ Ok None) × (p ≡ q)
  FindsNode p (Err e ∷ later) r q = (r ≡ Err e) × (p ≡ q)
  FindsNode p (Ok v ∷ later) r q = (CalledAt calls p v.1 true q × (r ≡ Ok (Some v.0)))
      ⊎ ((m : F) × CalledAt calls p v.1 false m × FindsNode m later r q)

  -- calls lead from p to q: false at each node of a beginning
  abbrev pub Passes : F → List Sight → F → Type 0
  Passes p [] q = p ≡ q
  Passes p (Err e ∷ later) q = p ≡ q
  Passes p (Ok v ∷ later) q = (p ≡ q) ⊎ ((m : F) × CalledAt calls p v.1 false m × Passes m later q)

  -- as in `FindsNode`; or memory ran out, and a beginning was shown
  abbrev pub FindsNodeOrStops : F → List Sight → Result (Option ℕ) TreeError → F → Type 0
  FindsNodeOrStops p seen r q = FindsNode p seen r q ⊎ ((r ≡ Err OutOfMemory) × Passes p seen q)
