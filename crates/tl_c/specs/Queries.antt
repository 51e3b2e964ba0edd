-- What is asked of the document that is held, if one is.
use Rattle.std.specs.Prelude.{◌≡◌, ℕ, Bool, false, List, [], Option, None, Some, if◌then◌else◌, nat_lt, option_map}
use Rattle.std.specs.Option.{option_map_or}
use Rattle.tl_dom_spec.specs.HtmlForest.{HtmlForest}
use Rattle.tl_spec.specs.Lex.ByteClass.{largest_u32}
use Rattle.tl_page.specs.Outcome.{Outcome, refused}
use Rattle.tl_tree.specs.Asked.{kind_of, node_at}
use Rattle.tl_tree.specs.Rows.{Node, Row, rows_of}
use Rattle.tl_tree.specs.Sources.{source_at}
use Rattle.tl_tree.specs.TreeView.{rows_in}
use Rattle.tl_tree.specs.declared.source.Source.{Source}
use Rattle.tl_tree.specs.declared.tree.Tree.{Tree}
use Rattle.tl_c.specs.declared.parsed_page.ParsedPage.{ParsedPage}

-- its tree
abbrev pub tree_held : Option ParsedPage → Option Tree
tree_held held = option_map (λ own. own.tree) held

-- the same where it has the node of a number
abbrev pub with_node : ℕ → Tree → Option Tree
with_node number tree =
    option_map (λ _. tree) (option_map kind_of (node_at (rows_in tree) number))

abbrev pub tree_in : ℕ → Option ParsedPage → Option Tree
tree_in number None = None
tree_in number (Some own) = with_node number own.tree

-- its rows: none where there is no document
abbrev pub rows_held : Option ParsedPage → List Row
rows_held None = []
rows_held (Some own) = rows_in own.tree

-- its rows are those of trees
abbrev pub AreTrees : Option ParsedPage → HtmlForest → Type 0
AreTrees held trees = rows_held held ≡ rows_of trees

abbrev pub is_quirks_held : Option ParsedPage → Bool
is_quirks_held None = false
is_quirks_held (Some own) = own.tree.is_quirks

-- the node of a number
abbrev pub node_in : ℕ → Option ParsedPage → Option Node
node_in number held = node_at (rows_held held) number

-- where in the page it comes from
abbrev pub source_in : ℕ → Option ParsedPage → Option Source
source_in number None = None
source_in number (Some own) = source_at own.tree number

-- what is made of a value; where there is none, that is refused
abbrev pub outcome_of_some : {A X : Type 0} → (A → Outcome X) → Option A → Outcome X
outcome_of_some make value = option_map_or make value refused

-- a number in 32 bits; no tree that is read has a larger one
abbrev pub short : ℕ → ℕ
short number = if nat_lt number largest_u32 then number else largest_u32

-- the number of a node, or the one that is said where there is none
abbrev pub number_or_none : Option ℕ → ℕ
number_or_none None = largest_u32
number_or_none (Some number) = short number

-- 1 for yes, 0 for no
abbrev pub one_if : Bool → ℕ
one_if holds = if holds then 1 else 0
