-- Nodes of a row, taken apart at the last `head` among them.
use Rattle.std.specs.Bool.{IsTrue}
use Rattle.std.specs.List.{list_all}
use Rattle.std.specs.Option.{MatchOption}
use Rattle.std.specs.Prelude.{Bool, List, [], codes, false, not, reverse, true, ℕ, ◌&&◌, ◌*◌, ◌+◌, ◌++◌, ◌∷◌, ◌≡◌}
use Rattle.tl_dom_spec.specs.Path.{Nodes, and_comment, and_doctype, and_element, and_text, joined, no_nodes}
use Rattle.tl_dom_spec.specs.Tags as dom
use Rattle.tl_tree.specs.Inner.Settling.{held_weight}
use Rattle.tl_tree.specs.Inner.Store.{is_node, node_of, tag_at}
use Rattle.tl_tree.specs.declared.cell.Node.{Node}
use Rattle.tl_tree.specs.declared.cell.Node.TheVariants.{Comment, Doctype, Element, Joined, Text}
use Rattle.tl_tree.specs.declared.head.Apart.{Apart}
use Rattle.tl_tree.specs.declared.head.Head.{Head}
use Rattle.tl_tree.specs.declared.store.Store.{Store}

abbrev pub is_head : dom.Tag → Bool
is_head t = dom.is_any (codes "head") t

-- none of the nodes is a `head`
abbrev pub is_headless : Nodes → Bool
is_headless no_nodes = true
is_headless (and_text nodes bytes) = is_headless nodes
is_headless (and_comment nodes bytes) = is_headless nodes
is_headless (and_doctype nodes own) = is_headless nodes
is_headless (and_element nodes tag children) = not (is_head tag) && is_headless nodes

abbrev pub is_head_node : Store → Node → Bool
is_head_node s (Element tag below) = is_head (tag_at s tag)
is_head_node s _ = false

-- neither a `head` nor a row
abbrev pub is_plain : Store → Node → Bool
is_plain s (Text span) = true
is_plain s (Comment span) = true
is_plain s (Doctype number source) = true
is_plain s (Element tag below) = not (is_head (tag_at s tag))
is_plain s (Joined second) = false

-- one node after the other behind a row
abbrev pub listed : Store → Nodes → List Node → Nodes
listed s nodes [] = nodes
listed s nodes (node ∷ rest) = listed s (joined nodes (node_of s node)) rest

-- a row as nodes that may be rows, and as plain ones behind them, of which the last comes first
pub record IsSplit (s : Store) (nodes : Nodes) (front behind : List Node) : Type 0 where
  pub stands : listed s (listed s no_nodes front) (reverse behind) ≡ nodes
  pub plain : IsTrue (list_all (is_plain s) behind)
  pub before : IsTrue (list_all (is_node s) front)
  pub after : IsTrue (list_all (is_node s) behind)

-- how much there is to be taken apart
abbrev pub front_weight : Store → List Node → ℕ
front_weight s [] = 0
front_weight s (node ∷ nodes) = 1 + 2 * held_weight s node + front_weight s nodes

-- with the last `head`
pub record IsHeaded (s : Store) (nodes : Nodes) (front : List Node) (head : Head)
    (behind : List Node) : Type 0 where
  pub split : IsSplit s nodes (front ++ Element head.tag head.below ∷ []) behind
  pub is : is_head (tag_at s head.tag) ≡ true

abbrev pub IsApart : Store → Nodes → Apart → Type 0
IsApart s nodes apart =
    MatchOption apart.head (IsSplit s nodes [] apart.behind.items)
    (λ head. IsHeaded s nodes apart.front.items head apart.behind.items)
