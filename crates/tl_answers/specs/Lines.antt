-- What is written of nodes, each with what ends it.
use Rattle.std.specs.Fmt.{decimal}
use Rattle.std.specs.Option.{option_and_then, option_map_or}
use Rattle.std.specs.Prelude.{Bool, List, None, Option, Some, [], false, flat_map, if◌then◌else◌, true, ℕ, ◌++◌, ◌∷◌}
use Rattle.tl_dom_spec.specs.HtmlForest.{HtmlForest}
use Rattle.tl_html_print.specs.Places.{inner_at, outer_at}
use Rattle.tl_tree.specs.Asked.{attributes_at, namespace_of, node_at, value_of}
use Rattle.tl_tree.specs.Below.{said_at, text_content}
use Rattle.tl_tree.specs.Rows.{Row, rows_of}
use Rattle.tl_tree.specs.declared.entries.Namespace.{Namespace}
use Rattle.tl_tree.specs.declared.entries.Namespace.TheVariants.{Html, Math, Svg}
use Rattle.tl_tree_extract.specs.Marks.{comments_below}
use Rattle.tl_answers.specs.LeftOut.{readable_inside}
use Rattle.tl_answers.specs.declared.field.Field.{Field}
use Rattle.tl_answers.specs.declared.field.Field.TheVariants.{InnerHtml, Number, OuterHtml, Text, Value}
use Rattle.tl_answers.specs.declared.field.Key.{Key}

abbrev pub is_html_space : Option Namespace → Bool
is_html_space None = false
is_html_space (Some Html) = true
is_html_space (Some Math) = false
is_html_space (Some Svg) = false

-- an element of HTML
abbrev pub is_html_at : List Row → ℕ → Bool
is_html_at rows n = is_html_space (option_and_then namespace_of (node_at rows n))

-- a key as it is asked for: of an element of HTML in lower case, of another as it is written
abbrev pub spelled : Bool → Key → List ℕ
spelled is_html key = if is_html then key.lower.now else key.written.now

abbrev pub value_at : Key → List Row → ℕ → Option (List ℕ)
value_at key rows n = value_of (spelled (is_html_at rows n) key) (attributes_at rows n)

-- a text and what ends it; nothing where there is none
abbrev pub ended : List ℕ → Option (List ℕ) → List ℕ
ended end text = option_map_or (λ t. t ++ end) text []

-- a text and a line feed; nothing where it is empty
abbrev pub line_ended : List ℕ → List ℕ
line_ended [] = []
line_ended (b ∷ text) = (b ∷ text) ++ 10 ∷ []

-- the field of the node of a number, with scripting off, and what ends it
abbrev pub field_line : Field → List ℕ → HtmlForest → ℕ → List ℕ
field_line Number end trees n = decimal n ++ end
field_line OuterHtml end trees n = outer_at false trees n ++ end
field_line InnerHtml end trees n = inner_at false trees n ++ end
field_line Text end trees n = text_content (rows_of trees) n ++ end
field_line (Value key) end trees n = ended end (value_at key (rows_of trees) n)

-- the fields of the nodes of these numbers, in order
abbrev pub field_lines : Field → List ℕ → HtmlForest → List ℕ → List ℕ
field_lines field end trees numbers = flat_map (field_line field end trees) numbers

-- the readable text inside each, whose lines end with a line feed, without what has a mark
abbrev pub readable_lines : List Bool → List Row → List ℕ → List ℕ
readable_lines marks rows numbers =
    flat_map (λ n. line_ended (readable_inside marks rows n)) numbers

-- what a comment says, and what ends it
abbrev pub comment_line : List ℕ → List Row → ℕ → List ℕ
comment_line end rows n = said_at rows n ++ end

abbrev pub comment_lines : List ℕ → List Row → List ℕ → List ℕ
comment_lines end rows comments = flat_map (comment_line end rows) comments

-- the comments below each
abbrev pub comments_inside : List ℕ → List Row → List ℕ → List ℕ
comments_inside end rows numbers =
    flat_map (λ n. comment_lines end rows (comments_below rows n)) numbers
