-- The table of nodes that a text gives.
use Rattle.std.specs.Prelude.{ℕ, ◌+◌, Bool, false, nat_lt, List, [], ◌∷◌, ◌++◌, length, Option}
use Rattle.std.specs.List.{list_any, between}
use Rattle.tl_spec.specs.Tree.Inline.{InlineVec, InlineMap, room}
use Rattle.tl_spec.specs.Lex.Attribute.{Pair}
use Rattle.tl_spec.specs.Lex.AttributeList.{Attributes, PlainAttributes, count_of}
use Rattle.tl_spec.specs.Lex.Token.{Token, Doctype, tokens}
use Rattle.tl_spec.specs.Tree.Forest.{Forest, none, text, comment, tag, SourceTag, forest}

-- handles in a list with room inline
abbrev pub Handles : Type 0
Handles = InlineVec ℕ

-- pairs in a map with room inline
abbrev pub Entries : Type 0
Entries = InlineMap (List ℕ) (Option (List ℕ))

-- a tag, with the handles of its children, its bytes in the text, and the place of its `<`
pub record TagNode : Type 0 where
  pub name : List ℕ
  pub attributes : Attributes (List ℕ)
  pub children : Handles
  pub raw : List ℕ
  pub start : ℕ

-- a tag, a text or a comment
pub data Node : Type 0 where
  Tag : TagNode → Node
  Raw : List ℕ → Node
  Comment : List ℕ → Node

-- the table of nodes, the handles of the top, and whether the version is HTML5
pub record Document : Type 0 where
  pub nodes : List Node
  pub top : List ℕ
  pub is_html5 : Bool

-- the list after pushes into an empty one: on the heap exactly where there are more than the room
-- holds
abbrev pub held_items : List ℕ → Handles
held_items items = record { items = items; on_heap = nat_lt room (length items) }

-- the map after inserts of distinct keys into an empty one
abbrev pub held_entries : List Pair → Entries
held_entries entries = record { entries = entries; on_heap = nat_lt room (length entries) }

-- attributes just read
abbrev pub held_attributes : PlainAttributes → Attributes (List ℕ)
held_attributes a = record { others = held_entries a.others; id = a.id; class = a.class }

-- how many nodes
abbrev pub size : {T : Type 0} → Forest T → ℕ
size none = 0
size (text bytes more) = 1 + size more
size (comment bytes more) = 1 + size more
size (tag own children more) = 1 + size children + size more

-- the numbers of the trees, where the first has the number n
abbrev pub numbers : {T : Type 0} → ℕ → Forest T → List ℕ
numbers n none = []
numbers n (text bytes more) = n ∷ numbers (n + 1) more
numbers n (comment bytes more) = n ∷ numbers (n + 1) more
numbers n (tag own children more) = n ∷ numbers (n + 1 + size children) more

-- a tag of the text t, with the numbers of its children
abbrev pub tag_node : List ℕ → SourceTag → List ℕ → TagNode
tag_node t own children = record {
  name = own.name;
  attributes = held_attributes own.attributes;
  children = held_items children;
  raw = between own.from own.to t;
  start = own.from;
}

-- the nodes in preorder, where the first has the number n and t is the text
abbrev pub nodes : List ℕ → ℕ → Forest SourceTag → List Node
nodes t n none = []
nodes t n (text bytes more) = Raw bytes ∷ nodes t (n + 1) more
nodes t n (comment bytes more) = Comment bytes ∷ nodes t (n + 1) more
nodes t n (tag own children more) =
    Tag (tag_node t own (numbers (n + 1) children)) ∷ nodes t (n + 1) children
    ++ nodes t (n + 1 + size children) more

-- a doctype of HTML5
abbrev pub is_html5_doctype : Token → Bool
is_html5_doctype (Doctype html) = html
is_html5_doctype _ = false

-- the document of a text
abbrev pub document : List ℕ → Document
document t = let trees = forest (tokens t) in
    record {
      nodes = nodes t 0 trees;
      top = numbers 0 trees;
      is_html5 = list_any (λ k. is_html5_doctype k.token) (tokens t);
    }

-- a node and its attributes
abbrev pub node_and_attribute_count : Node → ℕ
node_and_attribute_count (Tag own) = 1 + count_of own.attributes
node_and_attribute_count (Raw bytes) = 1
node_and_attribute_count (Comment bytes) = 1
