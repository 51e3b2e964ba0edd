-- What is said of all nodes of the document that is held at once, if one is.
use Rattle.std.specs.Prelude.{◌∷◌, ◌++◌, ℕ, List, [], Option, None, zero, suc, flat_map, length, option_and_then, option_map}
use Rattle.std.specs.Option.{unwrap_or}
use Rattle.tl_dom_spec.specs.Tags.{Attribute}
use Rattle.tl_page.specs.Outcome.{Outcome, success}
use Rattle.tl_tree.specs.Asked.{attributes_at, end_at, kind_of, name_of, namespace_of, node_at, parent_at, text_of}
use Rattle.tl_tree.specs.Rows.{Row}
use Rattle.tl_tree.specs.TreeView.{rows_in}
use Rattle.tl_c.specs.Nodes.{key_of, number_of_kind, number_of_namespace}
use Rattle.tl_c.specs.Queries.{number_or_none, outcome_of_some, tree_held}
use Rattle.tl_c.specs.declared.parsed_page.ParsedPage.{ParsedPage}

-- four numbers of a node: of its kind and its namespace, that of the node that it stands in, and
-- the one behind the last node below it
abbrev pub numbers_at : List Row → ℕ → List ℕ
numbers_at rows n =
    number_of_kind (option_map kind_of (node_at rows n))
    ∷ number_of_namespace (option_and_then namespace_of (node_at rows n))
    ∷ number_or_none (parent_at rows n)
    ∷ number_or_none (end_at rows n)
    ∷ []

-- those of the nodes before a number, in order
abbrev pub numbers_before : List Row → ℕ → List ℕ
numbers_before rows zero = []
numbers_before rows (suc n) = numbers_before rows n ++ numbers_at rows n

abbrev pub numbers_in : Option ParsedPage → Outcome (List ℕ)
numbers_in held =
    outcome_of_some
    (λ tree. let rows = rows_in tree in success (numbers_before rows (length rows)))
    (tree_held held)

-- a key and its value, with a byte 0 before each
abbrev pub attribute_part : Attribute → List ℕ
attribute_part own = (0 ∷ []) ++ (key_of own ++ ((0 ∷ []) ++ own.value))

-- the name of an element, and its keys and values
abbrev pub tag_part : List Row → ℕ → List ℕ
tag_part rows n =
    unwrap_or (option_and_then name_of (node_at rows n)) []
    ++ flat_map attribute_part (attributes_at rows n)

-- what stands in a node itself: of a text and a comment what they say, of an element its tag
abbrev pub own_at : List Row → ℕ → List ℕ
own_at rows n = unwrap_or (option_and_then text_of (node_at rows n)) (tag_part rows n)

-- the same, and a byte that no text of UTF-8 has
abbrev pub part_at : List Row → ℕ → List ℕ
part_at rows n = own_at rows n ++ (255 ∷ [])

-- the parts of the nodes before a number, in order
abbrev pub parts_before : List Row → ℕ → List ℕ
parts_before rows zero = []
parts_before rows (suc n) = parts_before rows n ++ part_at rows n

abbrev pub parts_in : Option ParsedPage → Outcome (List ℕ)
parts_in held =
    outcome_of_some
    (λ tree. let rows = rows_in tree in success (parts_before rows (length rows)))
    (tree_held held)
