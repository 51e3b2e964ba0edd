-- Elements without their children, as the tree has them: a namespace, a name, attributes; and what
-- the standard says of elements by namespace and name (13.2.4.2).
use Rattle.std.specs.Char.{to_ascii_lowercase}
use Rattle.std.specs.List.{list_any}
use Rattle.std.specs.Prelude.{Bool, List, None, Option, [], codes, false, filter, map, not, true, ℕ, ◌&&◌, ◌++◌, ◌||◌}
use Rattle.std.specs.Str.{bytes_eq}
use Rattle.tl_html_spec.specs.Balanced.{is_one_of}
use Rattle.tl_html_spec.specs.HtmlTokenizer.{HtmlAttribute}
use Rattle.tl_names.specs.Elements.{headings, implied_ends, is_among, special_names}

-- the namespaces of elements
pub data Namespace : Type 0 where
  html_space : Namespace
  math_space : Namespace
  svg_space : Namespace

-- the namespaces of attributes
pub data AttributeSpace : Type 0 where
  no_space : AttributeSpace
  xlink_space : AttributeSpace
  xml_space : AttributeSpace
  xmlns_space : AttributeSpace

pub record Attribute : Type 0 where
  pub space : AttributeSpace
  pub key : List ℕ
  pub value : List ℕ

pub record Tag : Type 0 where
  pub space : Namespace
  pub name : List ℕ
  pub attributes : List Attribute
  -- the number of its start tag among the marks of the page, from 0 on; none where no start tag
  -- stands for it. What is made anew of a tag (by the adoption agency, where formatting
  -- elements are reconstructed) has the number of that tag. No rule asks for it
  pub source : Option ℕ

-- an attribute as a tag of a page has it
abbrev pub plain_attribute : HtmlAttribute → Attribute
plain_attribute a = record { space = no_space; key = a.0; value = a.1 }

-- as a token has it: the number is given where it is taken
abbrev pub html_tag : List ℕ → List HtmlAttribute → Tag
html_tag name attributes = record {
  space = html_space;
  name = name;
  attributes = map plain_attribute attributes;
  source = None;
}

-- an HTML element without attributes
abbrev pub bare_tag : List ℕ → Tag
bare_tag name = record { space = html_space; name = name; attributes = []; source = None }

abbrev pub has_attribute : List ℕ → List Attribute → Bool
has_attribute key attributes = list_any (λ (a : Attribute). bytes_eq a.key key) attributes

-- whether the attribute of a key has a value, in any case
abbrev pub has_value : List ℕ → List ℕ → List Attribute → Bool
has_value key value attributes =
    list_any
    (λ (a : Attribute). bytes_eq a.key key && bytes_eq (map to_ascii_lowercase a.value) value)
    attributes

-- with those of the others whose keys are not there yet
abbrev pub with_missing : List Attribute → List Attribute → List Attribute
with_missing own others =
    own ++ filter (λ (a : Attribute). not (has_attribute a.key own)) others

-- Tests of elements

-- one of three answers, by the namespace
abbrev pub by_space : Namespace → Bool → Bool → Bool → Bool
by_space html_space html math svg = html
by_space math_space html math svg = math
by_space svg_space html math svg = svg

abbrev pub is_html : Tag → Bool
is_html t = by_space t.space true false false

abbrev pub is_math : Tag → Bool
is_math t = by_space t.space false true false

abbrev pub is_svg : Tag → Bool
is_svg t = by_space t.space false false true

-- an HTML element of one of these names
abbrev pub is_any : List ℕ → Tag → Bool
is_any names t = is_html t && is_one_of names t.name

-- an HTML element of this name
abbrev pub is_named : List ℕ → Tag → Bool
is_named name t = is_html t && bytes_eq name t.name

abbrev pub no_tag : Tag → Bool
no_tag t = false

-- Special elements and scopes (13.2.4.2)

abbrev pub is_math_mark : Tag → Bool
is_math_mark t = is_one_of (codes "mi mo mn ms mtext annotation-xml") t.name

abbrev pub is_svg_mark : Tag → Bool
is_svg_mark t = is_one_of (codes "foreignObject desc title") t.name

-- `search` is one by the standard, and not in all browsers: it is counted or not
abbrev pub is_special_name : Bool → List ℕ → Bool
is_special_name counts_search name =
    is_among special_names name && (counts_search || not (is_one_of (codes "search") name))

abbrev pub is_special : Bool → Tag → Bool
is_special counts_search t =
    by_space t.space (is_special_name counts_search t.name) (is_math_mark t) (is_svg_mark t)

abbrev pub scope_names : List ℕ
scope_names = codes "applet caption html table td th marquee object select template"

abbrev pub is_scope : Tag → Bool
is_scope t = by_space t.space (is_one_of scope_names t.name) (is_math_mark t) (is_svg_mark t)

abbrev pub is_list_scope : Tag → Bool
is_list_scope t = is_scope t || is_any (codes "ol ul") t

abbrev pub is_button_scope : Tag → Bool
is_button_scope t = is_scope t || is_any (codes "button") t

abbrev pub is_table_scope : Tag → Bool
is_table_scope t = is_any (codes "html table template") t

-- a special element but `address`, `div` and `p`
abbrev pub is_item_bound : Bool → Tag → Bool
is_item_bound counts_search t = is_special counts_search t && not (is_any (codes "address div p") t)

-- whose end tags are implied (13.2.6.3); and thoroughly
abbrev pub is_implied : Tag → Bool
is_implied t = is_html t && is_among implied_ends t.name

abbrev pub is_implied_thoroughly : Tag → Bool
is_implied_thoroughly t = is_implied t || is_any (codes "caption colgroup tbody td tfoot th thead tr") t

abbrev pub is_heading : Tag → Bool
is_heading t = is_html t && is_among headings t.name

abbrev pub is_paragraph : Tag → Bool
is_paragraph t = is_any (codes "p") t

abbrev pub is_template : Tag → Bool
is_template t = is_any (codes "template") t

abbrev pub is_table : Tag → Bool
is_table t = is_any (codes "table") t

abbrev pub is_select : Tag → Bool
is_select t = is_any (codes "select") t

-- where what is no part of a table is foster parented (13.2.6.1)
abbrev pub is_foster_target : Tag → Bool
is_foster_target t = is_any (codes "table tbody tfoot thead tr") t

-- Integration points (13.2.6)

abbrev pub is_text_integration_point : Tag → Bool
is_text_integration_point t = is_math t && is_one_of (codes "mi mo mn ms mtext") t.name

abbrev pub is_annotation : Tag → Bool
is_annotation t = is_math t && is_one_of (codes "annotation-xml") t.name

abbrev pub is_html_integration_point : Tag → Bool
is_html_integration_point t =
    (is_svg t && is_svg_mark t)
    || (is_annotation t
    && (has_value (codes "encoding") (codes "text/html") t.attributes
    || has_value (codes "encoding") (codes "application/xhtml+xml") t.attributes))
