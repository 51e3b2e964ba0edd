-- Nodes compared part by part.
use Rattle.std.specs.Option.{option_and_then, option_map}
use Rattle.std.specs.Prelude.{List, Option, Some, ℕ, ◌≡◌}
use Rattle.tl_tree.specs.Asked.{kind_of, name_of, namespace_of, node_at}
use Rattle.tl_tree.specs.Rows.{Node, Row}
use Rattle.tl_tree.specs.declared.kind.Kind.TheVariants as kinds
use Rattle.tl_tree_edit.specs.Bare.{bare}

-- two rows have the same node
abbrev pub IsSameNode : List Row → ℕ → List Row → ℕ → Type 0
IsSameNode old number new other =
    option_map bare (node_at old number) ≡ option_map bare (node_at new other)

-- the second is an element of the namespace of the first
pub record IsSpacedAlike (a b : Option Node) : Type 0 where
  pub kind : option_map kind_of b ≡ Some kinds.Element
  pub space : option_and_then namespace_of a ≡ option_and_then namespace_of b

-- and of its name
pub record IsNamedAlike (a b : Option Node) : Type 0 where
  pub kind : option_map kind_of b ≡ Some kinds.Element
  pub space : option_and_then namespace_of a ≡ option_and_then namespace_of b
  pub name : option_and_then name_of a ≡ option_and_then name_of b
