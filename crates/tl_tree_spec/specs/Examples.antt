-- Words for worked rows. No contract cites them.
use Prim.Native.String.{String}
use Rattle.std.specs.Prelude.{ℕ, Bool, List, [], ◌∷◌, ◌++◌, Option, option_map, flat_map, codes}
use Rattle.tl_spec.specs.Tree.Forest.{none, tag, text}
use Rattle.tl_html_spec.specs.Escapes.{escaped_value, text_escape}
use Rattle.tl_html_spec.specs.HtmlTokenizer.{HtmlAttribute, HtmlToken, Character, StartTag, EndTag, CommentToken, DoctypeToken, tokens_in_page}
use Rattle.tl_tree_spec.specs.HtmlForest.{HtmlForest, html_tokens_of}
use Rattle.tl_tree_spec.specs.HtmlTreeBuilder.{html_trees, html_trees_in_quirks, html_trees_without_search}
use Rattle.tl_tree_spec.specs.Stays.{stay}

-- the trees of a text as the children of a `div`
abbrev pub trees : String → Option HtmlForest
trees page = html_trees (tokens_in_page (codes page))

abbrev written_attribute : HtmlAttribute → List ℕ
written_attribute a = 32 ∷ (a.0 ++ (codes "=\"" ++ (escaped_value a.1 ++ codes "\"")))

abbrev written_token : HtmlToken → List ℕ
written_token (Character b) = text_escape b
written_token (StartTag name attributes closes) =
    60 ∷ (name ++ (flat_map written_attribute attributes ++ codes ">"))
written_token (EndTag name) = codes "</" ++ (name ++ codes ">")
written_token (CommentToken bytes) = codes "<!--" ++ (bytes ++ codes "-->")
written_token DoctypeToken = codes "<!doctype html>"

abbrev written : List HtmlToken → List ℕ
written tokens = flat_map written_token tokens

-- these trees written again: what `innerHTML` gives back
abbrev pub written_trees : HtmlForest → List ℕ
written_trees f = written (html_tokens_of f)

abbrev pub inner_html : String → Option (List ℕ)
inner_html page = option_map written_trees (trees page)

-- the same where `search` is no special element
abbrev pub inner_html_without_search : String → Option (List ℕ)
inner_html_without_search page =
    option_map written_trees (html_trees_without_search (tokens_in_page (codes page)))

-- the same where the document is in quirks mode
abbrev pub inner_html_in_quirks : String → Option (List ℕ)
inner_html_in_quirks page =
    option_map written_trees (html_trees_in_quirks (tokens_in_page (codes page)))

-- whether trees stay as the children of a `div`
abbrev pub stay_there : HtmlForest → Bool
stay_there f = stay (codes "html" ∷ []) f

-- whether the trees of a text do
abbrev pub page_stays : String → Option Bool
page_stays page = option_map stay_there (trees page)

-- an element without attributes
abbrev pub element : String → HtmlForest → HtmlForest
element name children = tag (record { name = codes name; attributes = [] }) children none

abbrev pub words : String → HtmlForest
words bytes = text (codes bytes) none
