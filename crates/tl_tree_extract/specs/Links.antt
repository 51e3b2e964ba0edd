-- The links of a page: the URLs that its attributes hold.
use Rattle.std.specs.Option.{is_some, option_and_then, option_map_or}
use Rattle.std.specs.Prelude.{Bool, List, None, Option, Some, [], codes, false, flat_map, if◌then◌else◌, length, map, max, nat_lt, not, suc, true, zero, ℕ, ◌&&◌, ◌++◌, ◌||◌, ◌∷◌}
use Rattle.std.specs.Str.{bytes_eq, str_eq_ignore_ascii_case}
use Rattle.tl_dom_spec.specs.Tags as dom
use Rattle.tl_names.specs.Elements.{words}
use Rattle.tl_tree.specs.Asked.{attribute_said, attributes_at, end_or, has_no_space, node_at, value_of}
use Rattle.tl_tree.specs.Rows.{Node, Row, a_comment, a_doctype, a_text, an_element, contents}
use Rattle.tl_tree_extract.specs.Candidates.{Item, next_candidate, next_word}
use Rattle.tl_tree_extract.specs.Named.{is_named_at}
use Rattle.tl_tree_extract.specs.Refresh.{next_refresh}
use Rattle.tl_tree_extract.specs.Spans.{Part, part_said, trimmed}
use Rattle.tl_tree_extract.specs.UrlKeys.{kind_at, url_keys}
use Rattle.tl_tree_extract.specs.declared.page_links.Link as declared
use Rattle.tl_tree_extract.specs.declared.url_keys.UrlKind.{UrlKind}
use Rattle.tl_tree_extract.specs.declared.url_keys.UrlKind.TheVariants.{Candidates, Refresh, Whole, Words}

-- a URL, where it stands in the value of an attribute, and of which element
pub record Link : Type 0 where
  pub node : ℕ
  pub attribute : dom.Attribute
  pub part : Part

abbrev pub link_said : declared.Link → Link
link_said l = record {
  node = l.node;
  attribute = attribute_said l.attribute;
  part = part_said l.part;
}

-- Values

-- the next URL of a value that holds several, or one among other words
abbrev pub next_item : UrlKind → List ℕ → Option Item
next_item Whole bytes = None
next_item Words bytes = next_word bytes
next_item Candidates bytes = next_candidate bytes
next_item Refresh bytes = next_refresh bytes

-- the URLs from here on of a value of so many bytes, at most as many as are given
abbrev pub parts_from : UrlKind → ℕ → List ℕ → ℕ → List Part
parts_from kind whole bytes zero = []
parts_from kind whole bytes (suc most) =
    elim (next_item kind bytes) as (λ _. List Part) [
      | None ↦ []
      | Some i ↦ trimmed whole i.rest i.url ∷ parts_from kind whole i.next most
    ]

-- the URLs of a value: each takes a byte at least, so there are no more than bytes
abbrev pub parts_of : UrlKind → List ℕ → List Part
parts_of Whole value = trimmed (length value) value value ∷ []
parts_of Words value = parts_from Words (length value) value (length value)
parts_of Candidates value = parts_from Candidates (length value) value (length value)
parts_of Refresh value = parts_from Refresh (length value) value (length value)

-- Attributes

-- a `meta` refreshes
abbrev pub refreshes : List dom.Attribute → Bool
refreshes attributes =
    option_map_or
    (λ value. str_eq_ignore_ascii_case value (codes "refresh"))
    (value_of (codes "http-equiv") attributes)
    false

-- the `content` of another `meta` holds no URL
abbrev pub kind_if : Bool → Option UrlKind → Option UrlKind
kind_if refreshes None = None
kind_if refreshes (Some Whole) = Some Whole
kind_if refreshes (Some Words) = Some Words
kind_if refreshes (Some Candidates) = Some Candidates
kind_if refreshes (Some Refresh) = if refreshes then Some Refresh else None

abbrev pub html_kind : dom.Tag → dom.Attribute → Option UrlKind
html_kind tag a =
    if has_no_space a.space
    then kind_if (refreshes tag.attributes) (kind_at url_keys a.key tag.name)
    else None

abbrev pub is_xlink : dom.AttributeSpace → Bool
is_xlink dom.no_space = false
is_xlink dom.xlink_space = true
is_xlink dom.xml_space = false
is_xlink dom.xmlns_space = false

-- at elements of `svg`: `href` and `xlink:href`
abbrev pub svg_kind : dom.Attribute → Option UrlKind
svg_kind a =
    if (has_no_space a.space || is_xlink a.space) && bytes_eq a.key (codes "href")
    then Some Whole
    else None

-- how the value of an attribute of an element holds URLs
abbrev pub kind_by : dom.Namespace → dom.Tag → dom.Attribute → Option UrlKind
kind_by dom.html_space tag a = html_kind tag a
kind_by dom.math_space tag a = None
kind_by dom.svg_space tag a = svg_kind a

abbrev pub kind_in : dom.Attribute → Node → Option UrlKind
kind_in a (an_element tag) = kind_by tag.space tag a
kind_in a _ = None

abbrev pub kind_of : List Row → ℕ → dom.Attribute → Option UrlKind
kind_of rows number a = option_and_then (kind_in a) (node_at rows number)

-- Pages

abbrev pub linked : ℕ → dom.Attribute → Part → Link
linked number a part = record { node = number; attribute = a; part = part }

abbrev pub links_in : ℕ → dom.Attribute → UrlKind → List Link
links_in number a kind = map (linked number a) (parts_of kind a.value)

abbrev pub attribute_links : List Row → ℕ → dom.Attribute → List Link
attribute_links rows number a = option_map_or (links_in number a) (kind_of rows number a) []

-- the links of an element, in the order of its tag
abbrev pub links_at : List Row → ℕ → List Link
links_at rows number = flat_map (attribute_links rows number) (attributes_at rows number)

abbrev pub is_contents : Node → Bool
is_contents (an_element tag) = false
is_contents contents = true
is_contents (a_text bytes) = false
is_contents (a_comment bytes) = false
is_contents (a_doctype own) = false

-- where the contents of templates that begin before a number end at last
abbrev pub contents_end : List Row → ℕ → ℕ
contents_end rows zero = 0
contents_end rows (suc n) =
    if option_map_or is_contents (node_at rows n) false
    then max (contents_end rows n) (end_or rows n 0)
    else contents_end rows n

-- a row stands in no contents
abbrev pub is_shown : List Row → ℕ → Bool
is_shown rows number = not (nat_lt number (contents_end rows number))

-- the links of the rows before a number, in the order of the page
abbrev pub links_before : List Row → ℕ → List Link
links_before rows zero = []
links_before rows (suc n) =
    links_before rows n ++ (if is_shown rows n then links_at rows n else [])

abbrev pub links_of : List Row → List Link
links_of rows = links_before rows (length rows)

-- Bases

unfoldable pub base_names : List (List ℕ)
base_names = words "base"

-- a `base` that has an `href`
abbrev pub has_base : List Row → ℕ → Bool
has_base rows number =
    is_named_at base_names rows number
    && is_some (value_of (codes "href") (attributes_at rows number))

-- one of the document
abbrev pub is_base_at : List Row → ℕ → Bool
is_base_at rows number = is_shown rows number && has_base rows number
