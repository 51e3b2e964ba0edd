-- What a store stands for, in words of `tl_dom_spec`, and what it is to grow.
use Rattle.std.specs.Option.{option_map}
use Rattle.std.specs.Prelude.{Bool, List, None, Option, Some, [], drop, length, map, nat_le, nat_lt, slice_index_or, suc, take, zero, ℕ, ◌++◌, ◌≡◌, ◌∷◌}
use Rattle.tl_dom_spec.specs.Marks.{marked}
use Rattle.tl_dom_spec.specs.Path.{Nodes, and_comment, and_doctype, and_element, and_text, joined, no_nodes}
use Rattle.tl_dom_spec.specs.Tags as dom
use Rattle.tl_html_spec.specs.Doctypes as doctypes
use Rattle.tl_tree.specs.Inner.Lists.{in_list, many_in}
use Rattle.tl_tree.specs.Inner.Within.{Sizes, attribute_is_within, doctype_is_within, node_is_within, span_is_within, tag_is_within}
use Rattle.tl_tree.specs.declared.cell.Cell.{Cell}
use Rattle.tl_tree.specs.declared.cell.Node.{Node}
use Rattle.tl_tree.specs.declared.cell.Node.TheVariants.{Comment, Doctype, Element, Joined, Text}
use Rattle.tl_tree.specs.declared.entries.AttributeEntry.{AttributeEntry}
use Rattle.tl_tree.specs.declared.entries.AttributeList.{AttributeList}
use Rattle.tl_tree.specs.declared.entries.AttributeSpace.{AttributeSpace}
use Rattle.tl_tree.specs.declared.entries.AttributeSpace.TheVariants.{Plain, Xlink, Xml, Xmlns}
use Rattle.tl_tree.specs.declared.entries.DoctypeEntry.{DoctypeEntry}
use Rattle.tl_tree.specs.declared.entries.Namespace.{Namespace}
use Rattle.tl_tree.specs.declared.entries.Namespace.TheVariants.{Html, Math, Svg}
use Rattle.tl_tree.specs.declared.entries.TagEntry.{TagEntry}
use Rattle.tl_tree.specs.declared.span.Span.{Span}
use Rattle.tl_tree.specs.declared.store.Store.{Store}

-- What is in range

abbrev pub sizes_of : Store → Sizes
sizes_of s = record {
  page = length s.page.now;
  side = length s.side.items;
  tags = length s.tags.items;
  doctypes = length s.doctypes.items;
}

abbrev pub is_span : Store → Span → Bool
is_span s span = span_is_within (length s.page.now) (length s.side.items) span

abbrev pub is_attribute : Store → AttributeEntry → Bool
is_attribute s a = attribute_is_within (length s.page.now) (length s.side.items) a

abbrev pub is_tag : Store → TagEntry → Bool
is_tag s t =
    tag_is_within (length s.page.now) (length s.side.items) (many_in s.attributes) t

abbrev pub is_doctype : Store → DoctypeEntry → Bool
is_doctype s d = doctype_is_within (length s.page.now) (length s.side.items) d

abbrev pub is_tag_number : Store → ℕ → Bool
is_tag_number s n = nat_lt n (length s.tags.items)

abbrev pub is_doctype_number : Store → ℕ → Bool
is_doctype_number s n = nat_lt n (length s.doctypes.items)

-- 0 is the row without nodes
abbrev pub is_row : Store → ℕ → Bool
is_row s n = nat_le n (length s.cells.items)

abbrev pub is_node : Store → Node → Bool
is_node s node = node_is_within (sizes_of s) (length s.cells.items) node

-- What it stands for

abbrev pub text_of : Store → List ℕ
text_of s = s.page.now ++ s.side.items

unfoldable pub bytes_of : Store → Span → List ℕ
bytes_of s span = take span.len (drop span.start (text_of s))

abbrev pub space_of : Namespace → dom.Namespace
space_of Html = dom.html_space
space_of Math = dom.math_space
space_of Svg = dom.svg_space

abbrev pub attribute_space_of : AttributeSpace → dom.AttributeSpace
attribute_space_of Plain = dom.no_space
attribute_space_of Xlink = dom.xlink_space
attribute_space_of Xml = dom.xml_space
attribute_space_of Xmlns = dom.xmlns_space

abbrev pub attribute_of : Store → AttributeEntry → dom.Attribute
attribute_of s a = record {
  space = attribute_space_of a.space;
  key = bytes_of s a.key;
  value = bytes_of s a.value;
}

abbrev pub list_in : Store → AttributeList → List AttributeEntry
list_in s list = in_list s.attributes list

-- the attributes of a tag
abbrev pub entries_of : Store → TagEntry → List AttributeEntry
entries_of s t = take t.attribute_count (drop t.first_attribute (list_in s t.list))

-- the number of the start tag: that before this one
abbrev pub source_of : ℕ → Option ℕ
source_of zero = None
source_of (suc n) = Some n

unfoldable pub tag_of : Store → TagEntry → dom.Tag
tag_of s t = record {
  space = space_of t.space;
  name = bytes_of s t.name;
  attributes = map (attribute_of s) (entries_of s t);
  source = source_of t.start;
}

unfoldable pub doctype_of : Store → DoctypeEntry → doctypes.Doctype
doctype_of s d = record {
  name = bytes_of s d.name;
  public_id = option_map (bytes_of s) d.public_id;
  system_id = option_map (bytes_of s) d.system_id;
  forces_quirks = d.forces_quirks;
}

-- the tag of a number
unfoldable pub tag_at : Store → ℕ → dom.Tag
tag_at s n = slice_index_or (map (tag_of s) s.tags.items) n (dom.bare_tag [])

unfoldable pub doctype_at : Store → ℕ → doctypes.Doctype
doctype_at s n =
    slice_index_or (map (doctype_of s) s.doctypes.items) n doctypes.no_doctype.own

-- a node alone, where the first of the rows is that of the number 0
abbrev pub node_in : Store → List Nodes → Node → Nodes
node_in s rows (Text own) = and_text no_nodes (marked own.source (bytes_of s own.span))
node_in s rows (Comment own) = and_comment no_nodes (marked own.source (bytes_of s own.span))
node_in s rows (Doctype n source) = and_doctype no_nodes (marked source (doctype_at s n))
node_in s rows (Element tag below) =
    and_element no_nodes (tag_at s tag) (slice_index_or rows below no_nodes)
node_in s rows (Joined second) = slice_index_or rows second no_nodes

abbrev pub row_in : Store → List Nodes → Cell → Nodes
row_in s rows c = joined (slice_index_or rows c.before no_nodes) (node_in s rows c.node)

-- the rows, with one more for each cell
abbrev pub rows_from : Store → List Nodes → List Cell → List Nodes
rows_from s rows [] = rows
rows_from s rows (c ∷ cells) = rows_from s (rows ++ row_in s rows c ∷ []) cells

unfoldable pub rows_of : Store → List Nodes
rows_of s = rows_from s (no_nodes ∷ []) s.cells.items

-- the nodes of a row
unfoldable pub nodes_of : Store → ℕ → Nodes
nodes_of s n = slice_index_or (rows_of s) n no_nodes

-- a node alone
unfoldable pub node_of : Store → Node → Nodes
node_of s node = node_in s (rows_of s) node

-- How it grows

abbrev pub Begins : {A : Type 0} → List A → List A → Type 0
Begins {A} front all = all ≡ front ++ drop (length front) all

-- a store begins with what another one was
pub record Grows (s t : Store) : Type 0 where
  pub page : t.page.now ≡ s.page.now
  pub side : Begins s.side.items t.side.items
  pub attributes : Begins s.attributes.tags.items t.attributes.tags.items
  pub html_attributes : Begins s.attributes.html.items t.attributes.html.items
  pub body_attributes : Begins s.attributes.body.items t.attributes.body.items
  pub tags : Begins s.tags.items t.tags.items
  pub doctypes : Begins s.doctypes.items t.doctypes.items
  pub cells : Begins s.cells.items t.cells.items

-- another store, which is the same but for its cells
pub record IsAlike (s t : Store) : Type 0 where
  pub page : t.page.now ≡ s.page.now
  pub side : t.side.items ≡ s.side.items
  pub attributes : t.attributes ≡ s.attributes
  pub tags : t.tags.items ≡ s.tags.items
  pub doctypes : t.doctypes.items ≡ s.doctypes.items
