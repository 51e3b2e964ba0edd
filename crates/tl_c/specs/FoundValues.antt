-- The values at a key of the elements where a selector of CSS holds.
use Rattle.std.specs.Prelude.{◌∷◌, ◌++◌, List, [], None, Option, Some, flat_map, ℕ}
use Rattle.tl_page.specs.Outcome.{Outcome}
use Rattle.tl_tree.specs.Asked.{attributes_at}
use Rattle.tl_tree.specs.Rows.{Row}
use Rattle.tl_css.specs.Selector.{Css}
use Rattle.tl_c.specs.Css.{answer_by}
use Rattle.tl_c.specs.Nodes.{value_at_key}
use Rattle.tl_c.specs.Queries.{rows_held, tree_held}
use Rattle.tl_c.specs.declared.parsed_page.ParsedPage.{ParsedPage}

-- a value, and a byte that no text of UTF-8 has
abbrev pub value_part : Option (List ℕ) → List ℕ
value_part None = []
value_part (Some value) = value ++ (255 ∷ [])

-- that of a node at a key
abbrev pub value_part_at : List ℕ → List Row → ℕ → List ℕ
value_part_at key rows n = value_part (value_at_key key (attributes_at rows n))

-- those of some nodes, in order
abbrev pub value_parts : List ℕ → List Row → List ℕ → List ℕ
value_parts key rows ns = flat_map (value_part_at key rows) ns

-- what is answered of the nodes that a selector found in the document that is held
abbrev pub values_by : Outcome Css → List ℕ → Option ParsedPage → List ℕ → Outcome (List ℕ)
values_by css key held ns =
    answer_by css (tree_held held) (value_parts key (rows_held held) ns)
