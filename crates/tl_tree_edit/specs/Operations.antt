-- Operations of the DOM on elements of a page, as edits of its tree. Markup is read in an element,
-- as `innerHTML`, `outerHTML` and `insertAdjacentHTML` read it.
use Rattle.std.specs.Option.{option_and_then, option_map, option_to_list, unwrap_or}
use Rattle.std.specs.Prelude.{Bool, List, None, Option, Some, [], codes, false, flat_map, if◌then◌else◌, length, map, nat_lt, suc, true, zero, ℕ, ◌&&◌, ◌≡◌, ◌∷◌}
use Rattle.std.specs.Str.{bytes_eq}
use Rattle.tl_dom_spec.specs.HtmlTree.{Context, html_fragment_by, standard}
use Rattle.tl_dom_spec.specs.Tags.{Attribute, Tag, bare_tag, plain_attribute}
use Rattle.tl_tree.specs.Asked.{end_at, first_child_at, kind_of, name_of, namespace_by, namespace_of, node_at, parent_at}
use Rattle.tl_tree.specs.Rows.{Node, Row, an_element, rows_of}
use Rattle.tl_tree.specs.declared.entries.Namespace.{Namespace}
use Rattle.tl_tree.specs.declared.entries.Namespace.TheVariants.{Html, Math}
use Rattle.tl_tree.specs.declared.kind.Kind.{Kind}
use Rattle.tl_tree.specs.declared.kind.Kind.TheVariants.{Contents}
use Rattle.tl_tree_edit.specs.Changes as changes
use Rattle.tl_tree_edit.specs.Changes.{Change, Edit, Put, Trees, edited}
use Rattle.tl_tree_edit.specs.Events.{events}
use Rattle.tl_tree_edit.specs.declared.position.Position.{Position}
use Rattle.tl_tree_edit.specs.declared.position.Position.TheVariants.{After, Append, Before, Fill, Prepend, Replace}

-- What is done to each of some elements
pub data Operation : Type 0 where
  changes_each : Change → Operation
  -- markup comes to stand there
  puts : Position → List ℕ → Operation

abbrev pub put_there : Position → Put → Change
put_there Replace own = changes.Replace own
put_there Fill own = changes.Fill own
put_there Before own = changes.Before own
put_there Prepend own = changes.Prepend own
put_there Append own = changes.Append own
put_there After own = changes.After own

-- Where markup is read

-- whether it comes to stand in the element
abbrev pub is_inner : Position → Bool
is_inner Fill = true
is_inner Prepend = true
is_inner Append = true
is_inner _ = false

-- whether it is put beside what stands there (`insertAdjacentHTML`)
abbrev pub is_adjacent : Position → Bool
is_adjacent Replace = false
is_adjacent Fill = false
is_adjacent _ = true

-- the row that it comes to stand in
abbrev pub holder : List Row → Position → ℕ → Option ℕ
holder rows position n = if is_inner position then Some n else parent_at rows n

-- an attribute as that of a context is said: no rule asks for its namespace there
abbrev pub without_space : Attribute → Attribute
without_space a = plain_attribute (a.key, a.value)

-- those of which rules ask in a context: `encoding` of an `annotation-xml`, which is of `math`
abbrev pub context_attributes : Option Namespace → List Attribute → List Attribute
context_attributes (Some Math) attributes = map without_space attributes
context_attributes _ attributes = []

-- a node as a context; what is no element is a `body`
abbrev pub tag_for : Option Node → Tag
tag_for (Some (an_element tag)) = record {
  space = tag.space;
  name = tag.name;
  attributes = context_attributes (Some (namespace_by tag.space)) tag.attributes;
  source = None;
}
tag_for _ = bare_tag (codes "body")

abbrev pub is_html_name : List ℕ → Option Namespace → Option (List ℕ) → Bool
is_html_name name (Some Html) (Some own) = bytes_eq name own
is_html_name name _ _ = false

-- an element of HTML of this name
abbrev pub is_named : List ℕ → Option Node → Bool
is_named name node =
    is_html_name name (option_and_then namespace_of node) (option_and_then name_of node)

-- the node that is a context: an `html` is none where something is put beside what stands there
abbrev pub read_by : Bool → Option Node → Option Node
read_by is_adjacent node = if is_adjacent && is_named (codes "html") node then None else node

abbrev pub node_held : List Row → Option ℕ → Option Node
node_held rows holder = option_and_then (node_at rows) holder

-- Forms

-- up to which row a form reaches, or nothing
abbrev pub form_end : List Row → ℕ → ℕ
form_end rows n =
    if is_named (codes "form") (node_at rows n) then unwrap_or (end_at rows n) 0 else 0

abbrev pub further : ℕ → ℕ → ℕ
further one other = if nat_lt one other then other else one

-- up to which row the forms reach that begin before one
abbrev pub forms_end : List Row → ℕ → ℕ
forms_end rows zero = 0
forms_end rows (suc n) = further (forms_end rows n) (form_end rows n)

-- whether a row is a form, or stands in one
abbrev pub is_in_form : List Row → ℕ → Bool
is_in_form rows n = nat_lt n (length rows) && nat_lt n (forms_end rows (suc n))

abbrev pub is_held_in_form : List Row → Option ℕ → Bool
is_held_in_form rows None = false
is_held_in_form rows (Some n) = is_in_form rows n

-- Edits

-- the element in which markup is read that comes to stand there
abbrev pub context : List Row → Bool → Position → ℕ → Context
context rows is_quirks position n = record {
  tag = tag_for (read_by (is_adjacent position) (node_held rows (holder rows position n)));
  is_in_form = is_held_in_form rows (holder rows position n);
  is_quirks = is_quirks;
}

abbrev pub fragment : List Row → Bool → Position → List ℕ → ℕ → List Row
fragment rows is_quirks position markup n =
    rows_of (html_fragment_by standard (context rows is_quirks position n) markup)

-- whether something is put into the element
abbrev pub is_put_inside : Change → Bool
is_put_inside (changes.Fill own) = true
is_put_inside (changes.Prepend own) = true
is_put_inside (changes.Append own) = true
is_put_inside _ = false

abbrev pub is_contents_kind : Option Kind → Bool
is_contents_kind (Some Contents) = true
is_contents_kind _ = false

abbrev pub is_contents : List Row → ℕ → Bool
is_contents rows n = is_contents_kind (option_map kind_of (node_at rows n))

abbrev pub contents_or : List Row → ℕ → Option ℕ → ℕ
contents_or rows n None = n
contents_or rows n (Some first) = if is_contents rows first then first else n

-- the row that is changed: what is put into a `template` is put into its contents, its first child
abbrev pub row_for : List Row → Change → ℕ → ℕ
row_for rows change n =
    if is_put_inside change then contents_or rows n (first_child_at rows n) else n

abbrev pub edit_for : List Row → Change → ℕ → Edit
edit_for rows change n = record { number = row_for rows change n; change = change }

-- the contents of a `template` that goes without what is in it go likewise
abbrev pub contents_first : List Row → Option ℕ → Option ℕ
contents_first rows None = None
contents_first rows (Some first) = if is_contents rows first then Some first else None

abbrev pub also_changed : List Row → Change → ℕ → Option ℕ
also_changed rows changes.Unwrap n = contents_first rows (first_child_at rows n)
also_changed rows _ n = None

abbrev pub change_at : Change → ℕ → Edit
change_at change n = record { number = n; change = change }

abbrev pub edits_for : List Row → Change → ℕ → List Edit
edits_for rows change n =
    edit_for rows change n
    ∷ option_to_list (option_map (change_at change) (also_changed rows change n))

-- markup that is put, seen from the element of a number
abbrev pub put_at : List Row → Bool → Position → List ℕ → ℕ → Edit
put_at rows is_quirks position markup n =
    edit_for rows (put_there position (Trees (fragment rows is_quirks position markup n))) n

-- an operation on the element of a number
abbrev pub made : List Row → Bool → Operation → ℕ → List Edit
made rows is_quirks (changes_each change) n = edits_for rows change n
made rows is_quirks (puts position markup) n = put_at rows is_quirks position markup n ∷ []

-- what a page, whose document is in quirks mode or isn't, says with an operation on some elements
abbrev pub IsMade : List Row → Bool → List ℕ → Operation → List Row → Type 0
IsMade old is_quirks numbers operation new =
    events new ≡ edited (flat_map (made old is_quirks operation) numbers) old
