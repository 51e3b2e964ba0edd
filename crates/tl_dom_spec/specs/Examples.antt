-- Words for worked rows. No contract cites them.
use Prim.Native.String.{String}
use Rattle.std.specs.Prelude.{Bool, List, None, Option, Some, [], codes, if◌then◌else◌, map, true, ℕ, ◌++◌, ◌∷◌}
use Rattle.tl_html_spec.specs.HtmlTokenizer.{data_state, html_tokens}
use Rattle.tl_dom_spec.specs.Tags.{Attribute, AttributeSpace, Namespace, bare_tag, html_space, is_named, math_space, no_space, svg_space, xlink_space, xml_space, xmlns_space}
use Rattle.tl_html_spec.specs.Doctypes.{or_empty}
use Rattle.tl_html_spec.specs.Driven.{driven, in_state}
use Rattle.tl_dom_spec.specs.Builder.{Builder, Flags, a_character, end_of_file}
use Rattle.tl_dom_spec.specs.Dispatcher.{token_done, tokens_done}
use Rattle.tl_dom_spec.specs.Runs.{run_taken}
use Rattle.tl_dom_spec.specs.Driver.{builder}
use Rattle.tl_dom_spec.specs.HtmlForest.{HtmlForest, comment, doctype, element, has_contents, no_trees, text}
use Rattle.tl_dom_spec.specs.HtmlTree.{Context, context_of, document_of, fragment_of_tokens, html_fragment_by, html_tree, html_tree_by, page_read, page_start, standard, tree_of_tokens, with_scripting, without_search}
use Rattle.tl_dom_spec.specs.Partial.{is_flow_context}

abbrev pub space_shown : Namespace → List ℕ
space_shown html_space = []
space_shown svg_space = codes "svg "
space_shown math_space = codes "math "

abbrev pub key_shown : AttributeSpace → List ℕ
key_shown no_space = []
key_shown xlink_space = codes "xlink "
key_shown xml_space = codes "xml "
key_shown xmlns_space = codes "xmlns "

abbrev pub attributes_shown : List Attribute → List ℕ
attributes_shown [] = []
attributes_shown (a ∷ attributes) =
    codes " " ++ key_shown a.space ++ a.key ++ codes "=" ++ a.value ++ attributes_shown attributes

abbrev pub ids_shown : Option (List ℕ) → Option (List ℕ) → List ℕ
ids_shown None None = []
ids_shown public_id system_id =
    codes " '" ++ or_empty public_id ++ codes "' '" ++ or_empty system_id ++ codes "'"

-- what stands below an element: its children as `[..]`, contents of a template as `{..}`
abbrev pub below : Bool → List ℕ → List ℕ
below is_contents [] = if is_contents then codes "{}" else []
below is_contents (b ∷ bytes) =
    if is_contents then codes "{" ++ b ∷ bytes ++ codes "}" else codes "[" ++ b ∷ bytes ++ codes "]"

-- trees on one line: `<name key=value>[children]`, texts between quotes
abbrev pub shown : HtmlForest → List ℕ
shown no_trees = []
shown (text own more) = codes "'" ++ own.said ++ codes "'" ++ shown more
shown (comment own more) = codes "<!--" ++ own.said ++ codes "-->" ++ shown more
shown (doctype own more) =
    codes "<!" ++ own.said.name ++ ids_shown own.said.public_id own.said.system_id
    ++ codes ">" ++ shown more
shown (element tag children more) =
    codes "<" ++ space_shown tag.space ++ tag.name ++ attributes_shown tag.attributes
    ++ codes ">" ++ below (has_contents tag) (shown children) ++ shown more

abbrev pub page_by : Flags → String → List ℕ
page_by flags bytes = shown (html_tree_by flags (codes bytes)).trees

-- the document of a page
abbrev pub page : String → List ℕ
page bytes = page_by standard bytes

-- the same with scripting
abbrev pub scripted : String → List ℕ
scripted bytes = page_by with_scripting bytes

abbrev pub is_quirks : String → Bool
is_quirks bytes = (html_tree (codes bytes)).is_quirks

-- what is in the first element of a name
abbrev pub inside_of_first : List ℕ → HtmlForest → HtmlForest
inside_of_first name no_trees = no_trees
inside_of_first name (text bytes more) = inside_of_first name more
inside_of_first name (comment bytes more) = inside_of_first name more
inside_of_first name (doctype own more) = inside_of_first name more
inside_of_first name (element tag children more) =
    if is_named name tag then children else inside_of_first name more

abbrev pub in_body_by : Flags → List ℕ → List ℕ
in_body_by flags bytes =
    shown
    (inside_of_first (codes "body")
    (inside_of_first (codes "html") (html_tree_by flags bytes).trees))

-- what the `body` element holds, in no quirks mode
abbrev pub in_body : String → List ℕ
in_body bytes = in_body_by standard (codes "<!DOCTYPE html><body>" ++ codes bytes)

-- the same where `search` is no special element
abbrev pub in_body_without_search : String → List ℕ
in_body_without_search bytes =
    in_body_by without_search (codes "<!DOCTYPE html><body>" ++ codes bytes)

-- the same in quirks mode
abbrev pub in_quirks : String → List ℕ
in_quirks bytes = in_body_by standard (codes "<body>" ++ codes bytes)

abbrev pub context_named : Namespace → String → Context
context_named space name =
    context_of (record { space = space; name = codes name; attributes = []; source = None })

abbrev pub inside_by : Flags → Context → String → List ℕ
inside_by flags context bytes = shown (html_fragment_by flags context (codes bytes))

-- the trees of a text in a context element of a name
abbrev pub inside : String → String → List ℕ
inside name bytes = inside_by standard (context_named html_space name) bytes

abbrev pub inside_svg : String → String → List ℕ
inside_svg name bytes = inside_by standard (context_named svg_space name) bytes

abbrev pub inside_math : String → String → List ℕ
inside_math name bytes = inside_by standard (context_named math_space name) bytes

abbrev pub scripted_inside : String → String → List ℕ
scripted_inside name bytes = inside_by with_scripting (context_named html_space name) bytes

-- the same where the context element stands in a `form`
abbrev pub inside_a_form : String → String → List ℕ
inside_a_form name bytes =
    inside_by standard (record (context_named html_space name) { is_in_form = true }) bytes

-- and where its document is in quirks mode
abbrev pub inside_quirks : String → String → List ℕ
inside_quirks name bytes =
    inside_by standard (record (context_named html_space name) { is_quirks = true }) bytes

-- the same by the tokens that are read by names alone
abbrev pub tokens_inside : String → String → List ℕ
tokens_inside name bytes =
    shown
    (fragment_of_tokens standard (context_named html_space name) (html_tokens (codes bytes)))

abbrev pub tokens_page : String → List ℕ
tokens_page bytes = shown (tree_of_tokens standard (html_tokens (codes bytes))).trees

-- how many elements were put in or opened again, and by how many they were too many at most
abbrev pub added : String → ℕ
added bytes = (page_read standard (codes bytes)).added

abbrev pub excess : String → ℕ
excess bytes = (page_read standard (codes bytes)).excess

-- what the builder holds behind the front of a page, which ends with a tag
abbrev pub read_front : String → Builder
read_front front = driven builder (page_start standard) (in_state data_state) (codes front)

abbrev pub ended : Builder → List ℕ
ended b = shown (document_of (token_done b end_of_file)).trees

-- a page that ends with a run of characters, which are taken one by one
abbrev pub one_by_one : String → String → List ℕ
one_by_one front run = ended (tokens_done (read_front front) (map a_character (codes run)))

-- the same with all but the first one taken at once
abbrev pub run_from : Builder → List ℕ → Builder
run_from b [] = b
run_from b (c ∷ run) = run_taken run (token_done b (a_character c))

abbrev pub at_once : String → String → List ℕ
at_once front run = ended (run_from (read_front front) (codes run))

-- the numbers of marks that nodes have, in the order of the page
abbrev pub numbers_of : HtmlForest → List (Option ℕ)
numbers_of no_trees = []
numbers_of (text own more) = Some own.source ∷ numbers_of more
numbers_of (comment own more) = Some own.source ∷ numbers_of more
numbers_of (doctype own more) = Some own.source ∷ numbers_of more
numbers_of (element tag below more) = tag.source ∷ (numbers_of below ++ numbers_of more)

abbrev pub numbers : String → List (Option ℕ)
numbers bytes = numbers_of (html_tree (codes bytes)).trees

-- of a text in a context element of a name
abbrev pub numbers_inside : String → String → List (Option ℕ)
numbers_inside name bytes =
    numbers_of (html_fragment_by standard (context_named html_space name) (codes bytes))

-- whether flow content is read as such in an element of a name
abbrev pub is_flow : List ℕ → Bool
is_flow name = is_flow_context (context_of (bare_tag name))
