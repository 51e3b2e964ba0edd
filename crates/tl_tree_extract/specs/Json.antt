-- What JSON says of nodes, as its tokens: an object for each. The kit's `json` writes them down,
-- with commas and escapes (`print` there), and reads them back.
use Rattle.json.specs.Print.{print}
use Rattle.json.specs.Token.{Token, begin_array, begin_object, end_array, end_object, key, null, number, string}
use Rattle.std.specs.Option.{option_and_then, option_map_or}
use Rattle.std.specs.Prelude.{Bool, List, None, Option, Some, [], codes, false, decimal, flat_map, if◌then◌else◌, length, nat_le, suc, true, zero, ℕ, ◌&&◌, ◌+◌, ◌++◌, ◌-◌, ◌∷◌}
use Rattle.std.specs.Str.{bytes_eq}
use Rattle.std.specs.Str.Lossy.{utf8_lossy}
use Rattle.tl_dom_spec.specs.Tags as dom
use Rattle.tl_html_spec.specs.Doctypes.{Doctype}
use Rattle.tl_tree.specs.Asked.{ancestors_at, attributes_at, end_at, name_of, namespace_of, node_at}
use Rattle.tl_tree.specs.Below.{ends_at, has_kind, text_content}
use Rattle.tl_tree.specs.Rows.{Node, Row, a_comment, a_doctype, a_text, an_element, contents}
use Rattle.tl_tree.specs.declared.entries.Namespace.{Namespace}
use Rattle.tl_tree.specs.declared.entries.Namespace.TheVariants.{Html, Math, Svg}
use Rattle.tl_tree.specs.declared.kind.Kind.{Kind}
use Rattle.tl_tree.specs.declared.kind.Kind.TheVariants as kinds
use Rattle.tl_tree.specs.declared.source.Source.{Source}
use Rattle.tl_tree_extract.specs.declared.json_form.JsonForm.{JsonForm}
use Rattle.tl_tree_extract.specs.declared.json_form.JsonForm.TheVariants.{Flat, Nested}

-- Members: of a string bytes that are no UTF-8 are U+FFFD

abbrev pub string_member : List ℕ → List ℕ → List Token
string_member name bytes = key name ∷ string (utf8_lossy bytes) ∷ []

-- none where there is no such string
abbrev pub any_member : List ℕ → Option (List ℕ) → List Token
any_member name None = []
any_member name (Some bytes) = string_member name bytes

abbrev pub number_member : List ℕ → ℕ → List Token
number_member name n = key name ∷ number (decimal n) ∷ []

-- what stands before the key of an attribute that has a namespace
abbrev pub prefix_of : dom.AttributeSpace → List ℕ → List ℕ
prefix_of dom.no_space own = []
prefix_of dom.xlink_space own = codes "xlink:"
prefix_of dom.xml_space own = codes "xml:"
prefix_of dom.xmlns_space own = if bytes_eq own (codes "xmlns") then [] else codes "xmlns:"

abbrev pub attribute_member : dom.Attribute → List Token
attribute_member a =
    key (utf8_lossy (prefix_of a.space a.key ++ a.key)) ∷ string (utf8_lossy a.value) ∷ []

-- in the order of the tag
abbrev pub attributes_member : List dom.Attribute → List Token
attributes_member attributes =
    key (codes "attributes") ∷ begin_object
    ∷ (flat_map attribute_member attributes ++ end_object ∷ [])

-- of an element; `null` of another node
abbrev pub name_member : Option (List ℕ) → List Token
name_member None = key (codes "name") ∷ null ∷ []
name_member (Some name) = string_member (codes "name") name

-- of an element that is not HTML's
abbrev pub namespace_member : Option Namespace → List Token
namespace_member None = []
namespace_member (Some Html) = []
namespace_member (Some Math) = key (codes "namespace") ∷ string (codes "math") ∷ []
namespace_member (Some Svg) = key (codes "namespace") ∷ string (codes "svg") ∷ []

-- where in the page a node comes from, if it is known
abbrev pub source_members : Option Source → List Token
source_members None = []
source_members (Some source) =
    number_member (codes "start") source.start ++ number_member (codes "end") source.end

-- the name of the file that a page is in, where it is said
abbrev pub file_member : Option (List ℕ) → List Token
file_member None = []
file_member (Some name) = key (codes "file") ∷ string name ∷ []

abbrev pub doctype_members : Doctype → List Token
doctype_members own =
    string_member (codes "doctype") own.name
    ++ (any_member (codes "public") own.public_id ++ any_member (codes "system") own.system_id)

-- what a node says, or where what is in it begins
abbrev pub own_members : Node → List Token
own_members (an_element tag) = key (codes "children") ∷ begin_array ∷ []
own_members contents = key (codes "contents") ∷ begin_array ∷ []
own_members (a_text own) = string_member (codes "text") own.said
own_members (a_comment own) = string_member (codes "comment") own.said
own_members (a_doctype own) = doctype_members own.said

-- Rows

abbrev pub own_at : List Row → ℕ → List Token
own_at rows n = option_map_or own_members (node_at rows n) []

-- what an object says first
abbrev pub named_at : List Row → ℕ → List Token
named_at rows n =
    attributes_member (attributes_at rows n)
    ++ (name_member (option_and_then name_of (node_at rows n))
    ++ namespace_member (option_and_then namespace_of (node_at rows n)))

-- the object of a row up to where it comes from
abbrev pub head_at : Option (List ℕ) → Option Source → List Row → ℕ → List Token
head_at file source rows n =
    begin_object
    ∷ (file_member file
    ++ (named_at rows n ++ (number_member (codes "node") n ++ source_members source)))

-- up to what is in it
abbrev pub opened_at : Option (List ℕ) → Option Source → List Row → ℕ → List Token
opened_at file source rows n = head_at file source rows n ++ own_at rows n

abbrev pub closing : Node → List Token
closing (an_element tag) = end_array ∷ end_object ∷ []
closing contents = end_array ∷ end_object ∷ []
closing (a_text own) = end_object ∷ []
closing (a_comment own) = end_object ∷ []
closing (a_doctype own) = end_object ∷ []

abbrev pub closing_at : List Row → ℕ → List Token
closing_at rows n = option_map_or closing (node_at rows n) []

-- the objects that a row is in and that end before the next row, from the inside outwards, up to
-- the first row
abbrev pub closed_outside : List Row → ℕ → ℕ → List ℕ → List Token
closed_outside rows first next [] = []
closed_outside rows first next (n ∷ outer) =
    if nat_le first n && ends_at rows n next
    then end_array ∷ end_object ∷ closed_outside rows first next outer
    else []

-- a row that ends before the next one, with those that end there too
abbrev pub closed_at : List Row → ℕ → ℕ → List Token
closed_at rows first n =
    if ends_at rows n (n + 1)
    then closing_at rows n ++ closed_outside rows first (n + 1) (ancestors_at rows n)
    else []

-- the first row says its file, and those behind it do not
abbrev pub file_at : Option (List ℕ) → ℕ → Option (List ℕ)
file_at file zero = file
file_at file (suc n) = None

-- so many rows from the first one on, each of which comes from somewhere
abbrev pub rows_tokens : Option (List ℕ) → (ℕ → Option Source) → List Row → ℕ → ℕ → List Token
rows_tokens file sources rows first zero = []
rows_tokens file sources rows first (suc n) =
    rows_tokens file sources rows first n
    ++ (opened_at (file_at file n) (sources (first + n)) rows (first + n)
    ++ closed_at rows first (first + n))

-- a node of a file with what is below it; `null` where there is no such node
abbrev pub file_tokens : Option (List ℕ) → (ℕ → Option Source) → List Row → ℕ → List Token
file_tokens file sources rows n =
    option_map_or (λ end. rows_tokens file sources rows n (end - n)) (end_at rows n) (null ∷ [])

abbrev pub node_tokens : (ℕ → Option Source) → List Row → ℕ → List Token
node_tokens = file_tokens None

-- an array of nodes, each with what is below it
abbrev pub nodes_tokens : (ℕ → Option Source) → List Row → List ℕ → List Token
nodes_tokens sources rows numbers =
    begin_array ∷ (flat_map (node_tokens sources rows) numbers ++ end_array ∷ [])

-- an array of what is in no node
abbrev pub document_tokens : (ℕ → Option Source) → List Row → List Token
document_tokens sources rows =
    begin_array ∷ (rows_tokens None sources rows 0 (length rows) ++ end_array ∷ [])

-- Flat

-- an element, or the contents of a template
abbrev pub has_below : Kind → Bool
has_below kinds.Element = true
has_below kinds.Contents = true
has_below kinds.Text = false
has_below kinds.Comment = false
has_below kinds.Doctype = false

-- what a node says, or the text of what is in it
abbrev pub flat_at : List Row → ℕ → List Token
flat_at rows n =
    if has_kind has_below rows n
    then string_member (codes "text") (text_content rows n)
    else own_at rows n

abbrev pub flat_object : Option (List ℕ) → Option Source → List Row → ℕ → List Token
flat_object file source rows n =
    head_at file source rows n ++ (flat_at rows n ++ end_object ∷ [])

-- a node of a file, with the text below it in the place of what is below it
abbrev pub flat_tokens : Option (List ℕ) → (ℕ → Option Source) → List Row → ℕ → List Token
flat_tokens file sources rows n =
    option_map_or (λ end. flat_object file (sources n) rows n) (end_at rows n) (null ∷ [])

-- an array of such nodes
abbrev pub flat_nodes : (ℕ → Option Source) → List Row → List ℕ → List Token
flat_nodes sources rows numbers =
    begin_array ∷ (flat_map (flat_tokens None sources rows) numbers ++ end_array ∷ [])

-- Arrays and lines

abbrev pub object_tokens :
    JsonForm → Option (List ℕ) → (ℕ → Option Source) → List Row → ℕ → List Token
object_tokens Nested file sources rows n = file_tokens file sources rows n
object_tokens Flat file sources rows n = flat_tokens file sources rows n

-- an array of such objects, which say no file
abbrev pub array_tokens : JsonForm → (ℕ → Option Source) → List Row → List ℕ → List Token
array_tokens form sources rows numbers =
    begin_array ∷ (flat_map (object_tokens form None sources rows) numbers ++ end_array ∷ [])

-- an object, and a line feed
abbrev pub json_line :
    JsonForm → Option (List ℕ) → (ℕ → Option Source) → List Row → ℕ → List ℕ
json_line form file sources rows n = print (object_tokens form file sources rows n) ++ 10 ∷ []

abbrev pub json_lines :
    JsonForm → Option (List ℕ) → (ℕ → Option Source) → List Row → List ℕ → List ℕ
json_lines form file sources rows numbers = flat_map (json_line form file sources rows) numbers
