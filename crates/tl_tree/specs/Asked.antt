-- What is asked of rows by their numbers.
use Rattle.std.specs.List.{find}
use Rattle.std.specs.Option.{option_and_then, option_copied, option_map, unwrap_or}
use Rattle.std.specs.Prelude.{Bool, List, None, Option, Some, [], false, if◌then◌else◌, length, nat_lt, slice_get, suc, true, zero, ℕ, ◌&&◌, ◌+◌, ◌-◌, ◌∷◌}
use Rattle.std.specs.Str.{bytes_eq}
use Rattle.tl_dom_spec.specs.Tags as dom
use Rattle.tl_html_spec.specs.Doctypes as doctypes
use Rattle.tl_tree.specs.Inner.Store.{attribute_space_of}
use Rattle.tl_tree.specs.Rows.{Node, Row, a_comment, a_doctype, a_text, an_element, contents}
use Rattle.tl_tree.specs.declared.attributes.Attribute.{Attribute}
use Rattle.tl_tree.specs.declared.doctype.Doctype.{Doctype}
use Rattle.tl_tree.specs.declared.entries.Namespace.{Namespace}
use Rattle.tl_tree.specs.declared.entries.Namespace.TheVariants.{Html, Math, Svg}
use Rattle.tl_tree.specs.declared.kind.Kind as kind
use Rattle.tl_tree.specs.declared.kind.Kind.TheVariants as kinds

abbrev pub kind_of : Node → kind.Kind
kind_of (an_element tag) = kinds.Element
kind_of contents = kinds.Contents
kind_of (a_text bytes) = kinds.Text
kind_of (a_comment bytes) = kinds.Comment
kind_of (a_doctype own) = kinds.Doctype

abbrev pub namespace_by : dom.Namespace → Namespace
namespace_by dom.html_space = Html
namespace_by dom.math_space = Math
namespace_by dom.svg_space = Svg

-- the namespace of an element
abbrev pub namespace_of : Node → Option Namespace
namespace_of (an_element tag) = Some (namespace_by tag.space)
namespace_of _ = None

-- the name of an element
abbrev pub name_of : Node → Option (List ℕ)
name_of (an_element tag) = Some tag.name
name_of _ = None

-- what a text or a comment says
abbrev pub text_of : Node → Option (List ℕ)
text_of (a_text own) = Some own.said
text_of (a_comment own) = Some own.said
text_of _ = None

-- what a doctype says
abbrev pub doctype_of : Node → Option doctypes.Doctype
doctype_of (a_doctype own) = Some own.said
doctype_of _ = None

-- a doctype that is answered
abbrev pub doctype_said : Doctype → doctypes.Doctype
doctype_said d = record {
  name = d.name.now;
  public_id = option_copied d.public_id;
  system_id = option_copied d.system_id;
  forces_quirks = d.forces_quirks;
}

-- the attributes of an element, in the order of its tag
abbrev pub attributes_of : Node → List dom.Attribute
attributes_of (an_element tag) = tag.attributes
attributes_of _ = []

-- an attribute that is answered
abbrev pub attribute_said : Attribute → dom.Attribute
attribute_said a = record {
  space = attribute_space_of a.space;
  key = a.key.now;
  value = a.value.now;
}

abbrev pub has_no_space : dom.AttributeSpace → Bool
has_no_space dom.no_space = true
has_no_space _ = false

-- the value of the first attribute of a key that has no namespace
abbrev pub value_of : List ℕ → List dom.Attribute → Option (List ℕ)
value_of key attributes =
    option_map
    (λ (a : dom.Attribute). a.value)
    (find (λ (a : dom.Attribute). has_no_space a.space && bytes_eq a.key key) attributes)

abbrev pub node_at : List Row → ℕ → Option Node
node_at rows number = option_map (λ row. row.node) (slice_get rows number)

-- the attributes of a row: none where there is no such row
abbrev pub attributes_at : List Row → ℕ → List dom.Attribute
attributes_at rows number = unwrap_or (option_map attributes_of (node_at rows number)) []

-- the number of the row that a row stands in
abbrev pub parent_at : List Row → ℕ → Option ℕ
parent_at rows number = option_and_then (λ row. row.parent) (slice_get rows number)

abbrev pub end_at : List Row → ℕ → Option ℕ
end_at rows number = option_map (λ row. row.end) (slice_get rows number)

-- the first child stands right behind a row
abbrev pub first_child_at : List Row → ℕ → Option ℕ
first_child_at rows number =
    option_and_then
    (λ (row : Row). if nat_lt (number + 1) row.end then Some (number + 1) else None)
    (slice_get rows number)

-- where what a row stands in ends, or all rows do
abbrev pub outer_end : List Row → Option ℕ → Option ℕ
outer_end rows None = Some (length rows)
outer_end rows (Some outer) = end_at rows outer

-- the next child of the same row stands where a row ends
abbrev pub next_sibling_at : List Row → ℕ → Option ℕ
next_sibling_at rows number =
    option_and_then
    (λ (row : Row).
    option_and_then
    (λ end. if nat_lt row.end end then Some row.end else None)
    (outer_end rows row.parent))
    (slice_get rows number)

-- Walks

-- the number behind what is below a row, or else the end
abbrev pub end_or : List Row → ℕ → ℕ → ℕ
end_or rows number end = unwrap_or (end_at rows number) end

-- this row, and those that come where the one before ends, up to an end
abbrev pub siblings_from : List Row → ℕ → ℕ → ℕ → List ℕ
siblings_from rows zero number end = []
siblings_from rows (suc most) number end =
    elim (nat_lt number end) as (λ _. List ℕ) [
      | true ↦ number ∷ siblings_from rows most (end_or rows number end) end
      | false ↦ []
    ]

abbrev pub siblings_up_to : List Row → ℕ → ℕ → List ℕ
siblings_up_to rows number end = siblings_from rows (end - number) number end

-- the children of a row
abbrev pub children_at : List Row → ℕ → List ℕ
children_at rows number = siblings_up_to rows (number + 1) (end_or rows number 0)

-- a row, and those that it is below, from the inside outwards
abbrev pub ancestors_from : List Row → ℕ → Option ℕ → List ℕ
ancestors_from rows most None = []
ancestors_from rows zero (Some number) = []
ancestors_from rows (suc most) (Some number) =
    number ∷ ancestors_from rows most (parent_at rows number)

-- each stands in one before it
abbrev pub ancestors_up_from : List Row → Option ℕ → List ℕ
ancestors_up_from rows None = []
ancestors_up_from rows (Some number) = ancestors_from rows (suc number) (Some number)

-- the rows that a row is below
abbrev pub ancestors_at : List Row → ℕ → List ℕ
ancestors_at rows number = ancestors_up_from rows (parent_at rows number)
