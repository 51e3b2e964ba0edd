-- Which box an element has by the default style sheet of the HTML standard (15.3), as far as the
-- readable text of a page goes by it.
use Rattle.std.specs.Option.{is_some, option_and_then, option_map, unwrap_or}
use Rattle.std.specs.Prelude.{Bool, List, Option, codes, false, if◌then◌else◌, not, slice_get, true, ℕ, ◌&&◌, ◌||◌}
use Rattle.tl_dom_spec.specs.Tags.{Attribute, Namespace, Tag, html_space, is_html, math_space, svg_space}
use Rattle.tl_html_spec.specs.Balanced.{is_one_of}
use Rattle.tl_tree.specs.Asked.{name_of, node_at, value_of}
use Rattle.tl_tree.specs.Rows.{Node, Row, an_element}
use Rattle.tl_tree_extract.specs.declared.text.display.Display.{Display}
use Rattle.tl_tree_extract.specs.declared.text.display.Display.TheVariants.{Block, Hidden, Inline, LineBreak, Paragraph, Preformatted, TableBox, TableCell, TableRow}

-- no box (15.3.1), also where scripts run; and what stands in the place of something that is shown
-- (15.4)
abbrev pub hidden_names : List ℕ
hidden_names =
    codes "area base basefont head iframe link meta noembed noframes noscript param rp script style template title"

-- lines of their own (15.3.2, 15.3.3, 15.3.6, 15.3.7, 15.3.11), with `option` and its groups, as
-- 3.2.7 has them
abbrev pub block_names : List ℕ
block_names =
    codes "address article aside blockquote body caption center dd details dialog dir div dl dt fieldset figcaption figure footer form frame frameset h1 h2 h3 h4 h5 h6 header hgroup hr html li main menu nav ol optgroup option search section summary ul"

-- such whose white space stands as it is
abbrev pub kept_names : List ℕ
kept_names = codes "listing plaintext pre textarea xmp"

abbrev pub common_box : List ℕ → Display
common_box name =
    if is_one_of (codes "p") name then Paragraph
    else if is_one_of (codes "br") name then LineBreak
    else if is_one_of (codes "table") name then TableBox
    else if is_one_of (codes "tr") name then TableRow
    else if is_one_of (codes "td th") name then TableCell
    else if is_one_of kept_names name then Preformatted
    else if is_one_of block_names name then Block
    else if is_one_of hidden_names name then Hidden
    else Inline

-- of names that tree construction doesn't speak of
abbrev pub rare_box : List ℕ → Display
rare_box name =
    if is_one_of (codes "audio canvas datalist meter progress video") name then Hidden
    else if is_one_of (codes "legend") name then Block
    else Inline

abbrev pub unless_inline : Display → Display → Display
unless_inline Inline other = other
unless_inline box other = box

abbrev pub html_box : List ℕ → Display
html_box name = unless_inline (common_box name) (rare_box name)

-- of `svg` and `math`
abbrev pub foreign_box : List ℕ → Display
foreign_box name =
    if is_one_of (codes "annotation annotation-xml clipPath defs desc linearGradient marker mask metadata pattern radialGradient script style symbol title") name
    then Hidden
    else if is_one_of (codes "text") name then Block
    else Inline

abbrev pub box_in : Namespace → List ℕ → Display
box_in html_space name = html_box name
box_in math_space name = foreign_box name
box_in svg_space name = foreign_box name

-- `[hidden]`, and `dialog:not([open])`
abbrev pub is_concealed_html : List ℕ → List Attribute → Bool
is_concealed_html name attributes =
    is_some (value_of (codes "hidden") attributes)
    || (is_one_of (codes "dialog") name && not (is_some (value_of (codes "open") attributes)))

abbrev pub is_concealed : Tag → Bool
is_concealed tag = is_html tag && is_concealed_html tag.name tag.attributes

-- by its namespace and name alone
abbrev pub box_of : Node → Display
box_of (an_element tag) = box_in tag.space tag.name
box_of _ = Inline

abbrev pub conceals : Node → Bool
conceals (an_element tag) = is_concealed tag
conceals _ = false

abbrev pub box_at : List Row → ℕ → Display
box_at rows number = unwrap_or (option_map box_of (node_at rows number)) Inline

abbrev pub is_concealed_at : List Row → ℕ → Bool
is_concealed_at rows number = unwrap_or (option_map conceals (node_at rows number)) false

-- whether a row has a mark
abbrev pub is_left_out : List Bool → ℕ → Bool
is_left_out marks number = unwrap_or (slice_get marks number) false

-- the name of an element
abbrev pub name_at : List Row → ℕ → Option (List ℕ)
name_at rows number = option_and_then name_of (node_at rows number)

abbrev pub shown_at : List Row → ℕ → Display
shown_at rows number = if is_concealed_at rows number then Hidden else box_at rows number

-- what has a mark is hidden
abbrev pub display_at : List Bool → List Row → ℕ → Display
display_at marks rows number =
    if is_left_out marks number then Hidden else shown_at rows number

abbrev pub is_hidden : Display → Bool
is_hidden Hidden = true
is_hidden _ = false

abbrev pub keeps_lines : Display → Bool
keeps_lines Preformatted = true
keeps_lines _ = false
