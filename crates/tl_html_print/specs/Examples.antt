-- Words for worked rows. No contract cites them.
use Prim.Native.String.{String}
use Rattle.std.specs.Prelude.{Bool, List, None, codes, false, true, ℕ, ◌++◌}
use Rattle.tl_dom_spec.specs.Examples.{inside_of_first}
use Rattle.tl_dom_spec.specs.HtmlForest.{element, no_trees, text}
use Rattle.tl_dom_spec.specs.HtmlTree.{html_tree_by, standard, with_scripting}
use Rattle.tl_dom_spec.specs.Builder.{Flags}
use Rattle.tl_dom_spec.specs.Marks.{unmarked}
use Rattle.tl_dom_spec.specs.Tags.{AttributeSpace, bare_tag}
use Rattle.tl_html_print.specs.Again.{is_read_again}
use Rattle.tl_html_print.specs.Places.{inner_at, outer_at}
use Rattle.tl_html_print.specs.Pretty.{pretty}
use Rattle.tl_html_print.specs.Serialized.{escaped, serialized, serialized_attribute}

-- the trees of a page, printed
abbrev pub document_by : Flags → String → List ℕ
document_by flags page = serialized flags.is_scripting None (html_tree_by flags (codes page)).trees

abbrev pub document : String → List ℕ
document page = document_by standard page

-- what the `body` element of a page holds, printed
abbrev pub in_body_by : Flags → String → List ℕ
in_body_by flags markup =
    serialized flags.is_scripting None
    (inside_of_first (codes "body")
    (inside_of_first (codes "html") (html_tree_by flags (codes "<body>" ++ codes markup)).trees))

abbrev pub in_body : String → List ℕ
in_body markup = in_body_by standard markup

abbrev pub scripted : String → List ℕ
scripted markup = in_body_by with_scripting markup

-- bytes as a text, and as a value
abbrev pub as_text : List ℕ → List ℕ
as_text bytes = escaped false bytes

abbrev pub as_value : List ℕ → List ℕ
as_value bytes = escaped true bytes

-- nodes of a page by their numbers: `html`, `head` and `body` are the first three
abbrev pub outer : String → ℕ → List ℕ
outer page number = outer_at false (html_tree_by standard (codes page)).trees number

abbrev pub inner : String → ℕ → List ℕ
inner page number = inner_at false (html_tree_by standard (codes page)).trees number

-- whether what the `body` element of a page holds is read again
abbrev pub is_again : String → Bool
is_again markup =
    is_read_again
    (inside_of_first (codes "body")
    (inside_of_first (codes "html") (html_tree_by standard (codes "<body>" ++ codes markup)).trees))

-- an element with text in it
abbrev pub holding : String → String → List ℕ
holding name bytes =
    serialized false None
    (element (bare_tag (codes name)) (text (unmarked (codes bytes)) no_trees) no_trees)

-- an attribute of a namespace, a key and a value
abbrev pub keyed : AttributeSpace → String → String → List ℕ
keyed space key value =
    serialized_attribute (record { space = space; key = codes key; value = codes value })

-- what the `body` element of a page holds, with lines; and a page
abbrev pub lines : String → List ℕ
lines markup =
    pretty false
    (inside_of_first (codes "body")
    (inside_of_first (codes "html") (html_tree_by standard (codes "<body>" ++ codes markup)).trees))

abbrev pub document_lines : String → List ℕ
document_lines page = pretty false (html_tree_by standard (codes page)).trees
