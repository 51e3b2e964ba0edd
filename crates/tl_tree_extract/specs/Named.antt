-- HTML elements by their names.
use Rattle.std.specs.Option.{option_map_or}
use Rattle.std.specs.Prelude.{Bool, List, false, ℕ, ◌&&◌}
use Rattle.tl_dom_spec.specs.Tags as dom
use Rattle.tl_names.specs.Elements.{is_among}
use Rattle.tl_tree.specs.Asked.{node_at}
use Rattle.tl_tree.specs.Rows.{Node, Row, a_comment, a_doctype, a_text, an_element, contents}

-- an HTML element with one of these names
abbrev pub is_named : List (List ℕ) → Node → Bool
is_named names (an_element tag) = dom.is_html tag && is_among names tag.name
is_named names contents = false
is_named names (a_text bytes) = false
is_named names (a_comment bytes) = false
is_named names (a_doctype own) = false

abbrev pub is_named_at : List (List ℕ) → List Row → ℕ → Bool
is_named_at names rows number = option_map_or (is_named names) (node_at rows number) false
