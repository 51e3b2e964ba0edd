-- What is seen of a node: a text and a comment have no name, no attributes and no children.
use Rattle.std.specs.Prelude.{ℕ, List, [], Option, None, Some}
use Rattle.std.specs.List.{last_or}
use Rattle.std.specs.Str.{bytes_eq}
use Rattle.tl_spec.specs.Edit.Attribute.{value_at}
use Rattle.tl_spec.specs.Tree.Document.{Node, Tag, Raw, Comment}

-- the name of a node, if it is a tag
abbrev pub name_of : Node → Option (List ℕ)
name_of (Tag own) = Some own.name
name_of (Raw bytes) = None
name_of (Comment bytes) = None

-- what stands at a key of a node: nothing, a key without value, or a value
abbrev pub attribute_of : List ℕ → Node → Option (Option (List ℕ))
attribute_of key (Tag own) = value_at (λ bytes. bytes) bytes_eq own.attributes key
attribute_of key (Raw bytes) = None
attribute_of key (Comment bytes) = None

-- the handles of the children of a node
abbrev pub children_of : Node → List ℕ
children_of (Tag own) = own.children.items
children_of (Raw bytes) = []
children_of (Comment bytes) = []

-- the handle of the last child of a node, if it has one
abbrev pub last_child_of : Node → Option ℕ
last_child_of node = last_or None (children_of node)
