-- What is asked of a node.
use Rattle.std.specs.Prelude.{◌≡◌, ℕ, List, Option, None, Some, false, option_and_then, option_map, flat_map, length, ◌++◌}
use Rattle.std.specs.Int.{w64, to_le_bytes}
use Rattle.std.specs.List.{find}
use Rattle.std.specs.Option.{unwrap_or}
use Rattle.std.specs.Str.{bytes_eq}
use Rattle.tl_dom_spec.specs.HtmlForest.{HtmlForest}
use Rattle.tl_dom_spec.specs.Tags.{Attribute}
use Rattle.tl_html_print.specs.Places.{inner_at, outer_at}
use Rattle.tl_html_print.specs.Serialized.{serialized_name}
use Rattle.tl_page.specs.Outcome.{Outcome, success}
use Rattle.tl_tree.specs.Asked.{attributes_at, end_at, first_child_at, kind_of, name_of, namespace_of, next_sibling_at, node_at, parent_at, text_of}
use Rattle.tl_tree.specs.Below.{previous_sibling_at, text_content}
use Rattle.tl_tree.specs.Rows.{Row}
use Rattle.tl_tree.specs.declared.entries.Namespace.{Namespace}
use Rattle.tl_tree.specs.declared.entries.Namespace.TheVariants.{Html, Math, Svg}
use Rattle.tl_tree.specs.declared.kind.Kind.{Kind}
use Rattle.tl_tree.specs.declared.kind.Kind.TheVariants.{Comment, Contents, Doctype, Element, Text}
use Rattle.tl_tree.specs.declared.source.Source.{Source}
use Rattle.tl_tree.specs.TreeView.{rows_in}
use Rattle.tl_c.specs.Queries.{node_in, outcome_of_some, rows_held, tree_in}
use Rattle.tl_c.specs.declared.markup.Markup.{Markup}
use Rattle.tl_c.specs.declared.markup.Markup.TheVariants.{Inner, Outer}
use Rattle.tl_c.specs.declared.parsed_page.ParsedPage.{ParsedPage}
use Rattle.tl_c.specs.declared.position.Position.{Position}
use Rattle.tl_c.specs.declared.position.Position.TheVariants.{End, FirstChild, NextSibling, Parent, PreviousSibling}

-- the number of a kind in the header, 0 where there is no node
abbrev pub number_of_kind : Option Kind → ℕ
number_of_kind None = 0
number_of_kind (Some Element) = 1
number_of_kind (Some Text) = 2
number_of_kind (Some Comment) = 3
number_of_kind (Some Doctype) = 4
number_of_kind (Some Contents) = 5

-- the number of a namespace in the header, 0 where there is no element
abbrev pub number_of_namespace : Option Namespace → ℕ
number_of_namespace None = 0
number_of_namespace (Some Html) = 1
number_of_namespace (Some Svg) = 2
number_of_namespace (Some Math) = 3

abbrev pub kind_in : ℕ → Option ParsedPage → Option Kind
kind_in number held = option_map kind_of (node_in number held)

abbrev pub namespace_in : ℕ → Option ParsedPage → Option Namespace
namespace_in number held = option_and_then namespace_of (node_in number held)

abbrev pub name_in : ℕ → Option ParsedPage → Option (List ℕ)
name_in number held = option_and_then name_of (node_in number held)

-- where a node stands
abbrev pub position_at : Position → List Row → ℕ → Option ℕ
position_at Parent rows number = parent_at rows number
position_at FirstChild rows number = first_child_at rows number
position_at NextSibling rows number = next_sibling_at rows number
position_at PreviousSibling rows number = previous_sibling_at rows number
position_at End rows number = end_at rows number

-- where in the page a node comes from is put; where that is nowhere it is refused
abbrev pub PutsSource : Option Source → ℕ → ℕ → ℕ → Type 0
PutsSource None start end status = (status ≡ 1) × (start ≡ 0) × (end ≡ 0)
PutsSource (Some source) start end status =
    (status ≡ 0) × (start ≡ source.start) × (end ≡ source.end)

-- Attributes, by their keys as they are serialized

abbrev pub key_of : Attribute → List ℕ
key_of own = serialized_name own.space own.key

-- the value at a key
abbrev pub value_at_key : List ℕ → List Attribute → Option (List ℕ)
value_at_key key attributes =
    option_map
    (λ (own : Attribute). own.value)
    (find (λ (own : Attribute). bytes_eq (key_of own) key) attributes)

abbrev pub value_in : ℕ → List ℕ → Option ParsedPage → Option (List ℕ)
value_in number key held = value_at_key key (attributes_at (rows_held held) number)

-- a number in 8 bytes, the lowest first
unfoldable pub number_bytes : ℕ → List ℕ
number_bytes number = to_le_bytes w64 number

-- how many bytes a key and a value have, and both
abbrev pub pair_bytes : Attribute → List ℕ
pair_bytes own =
    number_bytes (length (key_of own)) ++ (number_bytes (length own.value)
    ++ (key_of own ++ own.value))

-- those of the node of a number
abbrev pub pairs_in : ℕ → Option ParsedPage → Outcome (List ℕ)
pairs_in number held =
    outcome_of_some
    (λ tree. success (flat_map pair_bytes (attributes_at (rows_in tree) number)))
    (tree_in number held)

-- What is written

-- what a text and a comment say; of others what the texts below say
abbrev pub text_at : List Row → ℕ → List ℕ
text_at rows number =
    unwrap_or (option_and_then text_of (node_at rows number)) (text_content rows number)

abbrev pub text_in : ℕ → Option ParsedPage → Outcome (List ℕ)
text_in number held =
    outcome_of_some (λ tree. success (text_at (rows_in tree) number)) (tree_in number held)

-- a node as markup, and what is inside of it
abbrev pub markup_at : Markup → HtmlForest → ℕ → List ℕ
markup_at Outer trees number = outer_at false trees number
markup_at Inner trees number = inner_at false trees number

abbrev pub markup_in : Markup → HtmlForest → ℕ → Option ParsedPage → Outcome (List ℕ)
markup_in markup trees number held =
    outcome_of_some (λ _. success (markup_at markup trees number)) (tree_in number held)
