-- Walks over a table of nodes.
pub mod Length
pub mod Range
use Rattle.std.specs.Prelude.{ℕ, zero, suc, Bool, true, false, not, ◌==◌, List, [], ◌∷◌, ◌++◌, length, Option, Some, None, Result, Ok, Err, slice_get, map}
use Rattle.std.specs.List.{list_any, enumerate_from}
use Rattle.tl_spec.specs.Lex.ByteClass.{is_printed_alone}
use Rattle.tl_spec.specs.Lex.AttributeList.{Attributes, PlainAttributes}
use Rattle.tl_spec.specs.Tree.Forest.{Forest, none, text, comment, tag, PlainTag}
use Rattle.tl_spec.specs.Tree.Document.{TagNode, Node, Tag, Raw, Comment}

-- a handle past the table, and a handle that stands on its own path
pub data TreeFault : Type 0 where
  Dangling : ℕ → TreeFault
  Cycle : ℕ → TreeFault

-- what a walk meets, in a row: as trees of handles and nodes, with faults as leaves; a tag is
-- entered or passed by
pub data Walk : Type 0 where
  end : Walk
  meets_text : ℕ → List ℕ → Walk → Walk
  meets_comment : ℕ → List ℕ → Walk → Walk
  meets_tag : ℕ → TagNode → Walk → Walk → Walk
  passes_tag : ℕ → TagNode → Walk → Walk
  meets_fault : TreeFault → Walk → Walk

-- a path has its last handle first
abbrev pub stands_on : List ℕ → ℕ → Bool
stands_on path h = list_any (λ g. g == h) path

module _ (enters : List ℕ → Bool) (nodes : List Node) where
  -- a tag, and whether it is entered
  abbrev pub tag_walk : (List ℕ → Walk) → ℕ → Walk → TagNode → Bool → Walk
  tag_walk below h more own true = meets_tag h own (below own.children.items) more
  tag_walk below h more own false = passes_tag h own more

  -- a node of the table, before what is met after it
  abbrev pub node_walk : (List ℕ → Walk) → ℕ → Walk → Node → Walk
  node_walk below h more (Raw bytes) = meets_text h bytes more
  node_walk below h more (Comment bytes) = meets_comment h bytes more
  node_walk below h more (Tag own) = tag_walk below h more own (enters own.name)

  -- one handle: whether it stands on the path, and its node, or none past the table
  abbrev pub handle_walk : (List ℕ → Walk) → ℕ → Walk → Bool → Option Node → Walk
  handle_walk below h more stands None = meets_fault (Dangling h) more
  handle_walk below h more true (Some node) = meets_fault (Cycle h) more
  handle_walk below h more false (Some node) = node_walk below h more node

  -- handles in a row, where `below` walks what hangs below a path
  abbrev pub row_walk : (List ℕ → List ℕ → Walk) → List ℕ → List ℕ → Walk
  row_walk below path [] = end
  row_walk below path (h ∷ hs) = handle_walk (below (h ∷ path)) h (row_walk below path hs)
      (stands_on path h) (slice_get nodes h)

  -- the walk at most n steps down
  abbrev pub walk_within : ℕ → List ℕ → List ℕ → Walk
  walk_within zero path hs = row_walk (λ _ _. end) path hs
  walk_within (suc n) path hs = row_walk (walk_within n) path hs

  -- the walk of handles in a row, below this path: a path is never longer than the table
  abbrev pub walk : List ℕ → List ℕ → Walk
  walk = walk_within (length nodes)

  -- the walk of a node on which a call is made: its handle is not known, so no path holds it, and 0
  -- stands for it
  abbrev pub walk_of : Node → Walk
  walk_of node = node_walk (walk []) 0 end node

-- the full walk enters every tag
abbrev pub all_tags : List ℕ → Bool
all_tags name = true

-- the print's walk enters no tag that is printed alone
abbrev pub prints_children : List ℕ → Bool
prints_children name = not (is_printed_alone name)

-- the first of two
abbrev pub earlier_fault : Option TreeFault → Option TreeFault → Option TreeFault
earlier_fault None later = later
earlier_fault (Some e) later = Some e

-- the first fault, a node before its children and these before what stands after it
abbrev pub first_fault : Walk → Option TreeFault
first_fault end = None
first_fault (meets_text h bytes more) = first_fault more
first_fault (meets_comment h bytes more) = first_fault more
first_fault (meets_tag h own children more) =
    earlier_fault (first_fault children) (first_fault more)
first_fault (passes_tag h own more) = first_fault more
first_fault (meets_fault e more) = Some e

-- a node's attributes, without the flag
abbrev pub plain_attributes : Attributes (List ℕ) → PlainAttributes
plain_attributes a = record { others = a.others.entries; id = a.id; class = a.class }

-- a tag without its children and its place
abbrev pub plain_node : TagNode → PlainTag
plain_node own = record { name = own.name; attributes = plain_attributes own.attributes }

-- the trees that are met, faults left out
abbrev pub trees : Walk → Forest PlainTag
trees end = none
trees (meets_text h bytes more) = text bytes (trees more)
trees (meets_comment h bytes more) = comment bytes (trees more)
trees (meets_tag h own children more) = tag (plain_node own) (trees children) (trees more)
trees (passes_tag h own more) = tag (plain_node own) none (trees more)
trees (meets_fault e more) = trees more

-- a fault if there is one, and else the value
abbrev pub fault_or : {A : Type 0} → Option TreeFault → A → Result A TreeFault
fault_or None x = Ok x
fault_or (Some e) x = Err e

-- what f makes of the trees of a walk, or its first fault
abbrev pub walk_result : {A : Type 0} → (Forest PlainTag → A) → Walk → Result A TreeFault
walk_result f w = fault_or (first_fault w) (f (trees w))

-- what is met in order, each tag before its children: handles with their nodes, and faults
abbrev pub visits : Walk → List (Result (ℕ × Node) TreeFault)
visits end = []
visits (meets_text h bytes more) = Ok (h, Raw bytes) ∷ visits more
visits (meets_comment h bytes more) = Ok (h, Comment bytes) ∷ visits more
visits (meets_tag h own children more) = Ok (h, Tag own) ∷ visits children ++ visits more
visits (passes_tag h own more) = Ok (h, Tag own) ∷ visits more
visits (meets_fault e more) = Err e ∷ visits more

-- visits of these nodes, numbered from n on
abbrev pub visits_from : ℕ → List Node → List (Result (ℕ × Node) TreeFault)
visits_from n nodes = map (λ v. Ok v) (enumerate_from n nodes)

-- what happens on a walk, one event after the other: only a tag that was entered is left
pub data Event : Type 0 where
  meets : ℕ → Node → Event
  leaves : TagNode → Event
  faulty : TreeFault → Event

-- the events of a walk
abbrev pub events : Walk → List Event
events end = []
events (meets_text h bytes more) = meets h (Raw bytes) ∷ events more
events (meets_comment h bytes more) = meets h (Comment bytes) ∷ events more
events (meets_tag h own children more) =
    meets h (Tag own) ∷ events children ++ leaves own ∷ events more
events (passes_tag h own more) = meets h (Tag own) ∷ events more
events (meets_fault e more) = faulty e ∷ events more

-- the first fault among events
abbrev pub fault_among : List Event → Option TreeFault
fault_among [] = None
fault_among (meets h node ∷ later) = fault_among later
fault_among (leaves own ∷ later) = fault_among later
fault_among (faulty e ∷ later) = Some e
