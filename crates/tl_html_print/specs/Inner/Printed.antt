-- What is printed of rows, one after the other: what a row writes, and the end tags of those that
-- end with it.
use Rattle.std.specs.Option.{option_and_then, option_map, unwrap_or}
use Rattle.std.specs.Prelude.{Bool, List, None, Option, Some, [], false, if◌then◌else◌, max, nat_le, nat_lt, suc, true, zero, ℕ, ◌+◌, ◌-◌, ◌&&◌, ◌++◌, ◌==◌, ◌∷◌}
use Rattle.tl_dom_spec.specs.Lawful.{is_void}
use Rattle.tl_dom_spec.specs.Tags.{Tag, is_html}
use Rattle.tl_html_print.specs.Serialized.{end_tag, serialized_comment, serialized_doctype, serialized_text, start_tag}
use Rattle.tl_tree.specs.Asked.{ancestors_at, end_at, node_at, parent_at}
use Rattle.tl_tree.specs.Below.{ends_at}
use Rattle.tl_tree.specs.Rows.{Node, Row, a_comment, a_doctype, a_text, an_element, contents}

-- the tag of an element
abbrev pub tag_of : Node → Option Tag
tag_of (an_element tag) = Some tag
tag_of _ = None

abbrev pub tag_at : List Row → ℕ → Option Tag
tag_at rows number = option_and_then tag_of (node_at rows number)

-- the tag of the element that a row stands in
abbrev pub parent_tag : List Row → Option ℕ → Option Tag
parent_tag rows parent = option_and_then (tag_at rows) parent

-- the name of an HTML element
abbrev pub html_name : Node → Option (List ℕ)
html_name (an_element tag) = if is_html tag then Some tag.name else None
html_name _ = None

abbrev pub html_name_at : List Row → ℕ → Option (List ℕ)
html_name_at rows number = option_and_then html_name (node_at rows number)

abbrev pub is_void_at : List Row → ℕ → Bool
is_void_at rows number = unwrap_or (option_map is_void (tag_at rows number)) false

-- what a node writes before what is below it
abbrev pub opened : Bool → Option Tag → Node → List ℕ
opened is_scripting parent (an_element tag) = start_tag tag
opened is_scripting parent contents = []
opened is_scripting parent (a_text own) = serialized_text is_scripting parent own.said
opened is_scripting parent (a_comment own) = serialized_comment own.said
opened is_scripting parent (a_doctype own) = serialized_doctype own.said.name

abbrev pub opened_at : Bool → List Row → ℕ → List ℕ
opened_at is_scripting rows number =
    unwrap_or
    (option_map
    (opened is_scripting (parent_tag rows (parent_at rows number)))
    (node_at rows number))
    []

-- what a row writes behind what is below it
abbrev pub ended_at : List Row → ℕ → List ℕ
ended_at rows number = unwrap_or (option_map end_tag (tag_at rows number)) []

-- rows from the inside outwards, as long as they end before the next row, and are none before the
-- first that is printed
abbrev pub closed : List Row → ℕ → ℕ → List ℕ → List ℕ
closed rows first next [] = []
closed rows first next (number ∷ outer) =
    if nat_le first number && ends_at rows number next
    then ended_at rows number ++ closed rows first next outer
    else []

-- a row, and those that it is below
abbrev pub upwards : List Row → ℕ → List ℕ
upwards rows number = number ∷ ancestors_at rows number

-- the row that is printed next: the one behind, or behind what is below a void element
abbrev pub behind : List Row → ℕ → ℕ
behind rows number =
    if is_void_at rows number
    then max (number + 1) (unwrap_or (end_at rows number) 0)
    else number + 1

-- so many rows at most, from one on and before an end
abbrev pub printed_up_to : Bool → List Row → ℕ → ℕ → ℕ → ℕ → List ℕ
printed_up_to is_scripting rows first end zero number = []
printed_up_to is_scripting rows first end (suc most) number =
    elim (nat_lt number end) as (λ _. List ℕ) [
      | true ↦ opened_at is_scripting rows number
          ++ (closed rows first (behind rows number) (upwards rows number)
          ++ printed_up_to is_scripting rows first end most (behind rows number))
      | false ↦ []
    ]

abbrev pub printed_from : Bool → List Row → ℕ → ℕ → ℕ → List ℕ
printed_from is_scripting rows first end number =
    printed_up_to is_scripting rows first end (end - number) number

-- the rows of a range
abbrev pub printed : Bool → List Row → ℕ → ℕ → List ℕ
printed is_scripting rows first end = printed_from is_scripting rows first end first
