-- The nodes of a page as a tree, each on a line.
use Rattle.std.specs.Option.{option_map_or, unwrap_or}
use Rattle.std.specs.Prelude.{Bool, List, [], codes, decimal, false, flat_map, if◌then◌else◌, length, nat_lt, not, suc, zero, ℕ, ◌++◌, ◌==◌, ◌||◌, ◌∷◌}
use Rattle.std.specs.List.{before_first}
use Rattle.tl_dom_spec.specs.Tags as dom
use Rattle.tl_names.specs.Elements.{words}
use Rattle.tl_tree.specs.Asked.{ancestors_at, node_at, value_of}
use Rattle.tl_tree.specs.Below.{words_of}
use Rattle.tl_tree.specs.Rows.{Node, Row, a_comment, a_doctype, a_text, an_element, contents}
use Rattle.tl_tree_extract.specs.Notation.{css_name, css_string}
use Rattle.tl_tree_extract.specs.Outline.{indentation}
use Rattle.tl_tree_extract.specs.Readable.{one_line}
use Rattle.tl_tree_extract.specs.Runs.{behind}
use Rattle.tl_tree_extract.specs.declared.run.Run.TheVariants.{White}

-- Elements: each is said by a selector of CSS that holds of it

-- `#id`; nothing of an empty one
abbrev pub id_words : List ℕ → List ℕ
id_words [] = []
id_words (b ∷ id) = 35 ∷ css_name (b ∷ id)

-- `.class`
abbrev pub class_word : List ℕ → List ℕ
class_word word = 46 ∷ css_name word

abbrev pub class_words : List ℕ → List ℕ
class_words class = flat_map class_word (words_of class)

-- `[key="value"]`
abbrev pub key_words : List ℕ → List ℕ → List ℕ
key_words key value = 91 ∷ (key ++ (61 ∷ (css_string value ++ 93 ∷ [])))

-- the value of a key that has no namespace; nothing where there is none
abbrev pub value_or : List dom.Attribute → List ℕ → List ℕ
value_or attributes key = unwrap_or (value_of key attributes) []

abbrev pub shown_key : List dom.Attribute → List ℕ → List ℕ
shown_key attributes key = option_map_or (key_words key) (value_of key attributes) []

-- the keys that are shown beside id and class: what tells an element from others, and where it
-- leads
unfoldable pub shown_keys : List (List ℕ)
shown_keys = words "name property type rel for role href src action"

abbrev pub keys_words : List (List ℕ) → List dom.Attribute → List ℕ
keys_words keys attributes = flat_map (shown_key attributes) keys

abbrev pub attribute_words : List dom.Attribute → List ℕ
attribute_words attributes =
    id_words (value_or attributes (codes "id"))
    ++ (class_words (value_or attributes (codes "class")) ++ keys_words shown_keys attributes)

-- Other nodes

-- the words of the first line that has some, with a space between two
abbrev pub first_words : List ℕ → List ℕ
first_words bytes = one_line (before_first (λ b. b == 10) (behind White bytes))

abbrev pub text_words : List ℕ → List ℕ
text_words bytes = 34 ∷ (first_words bytes ++ 34 ∷ [])

abbrev pub comment_words : List ℕ → List ℕ
comment_words bytes = codes "<!-- " ++ (first_words bytes ++ codes " -->")

abbrev pub behind_space : List ℕ → List ℕ
behind_space [] = []
behind_space (b ∷ name) = 32 ∷ b ∷ name

abbrev pub doctype_words : List ℕ → List ℕ
doctype_words name = codes "<!DOCTYPE" ++ (behind_space name ++ 62 ∷ [])

-- Lines

abbrev pub words_in : Node → List ℕ
words_in (an_element tag) = css_name tag.name ++ attribute_words tag.attributes
words_in contents = codes "#document-fragment"
words_in (a_text own) = text_words own.said
words_in (a_comment own) = comment_words own.said
words_in (a_doctype own) = doctype_words own.said.name

abbrev pub node_words : List Row → ℕ → List ℕ
node_words rows n = option_map_or words_in (node_at rows n) []

-- a text of white space alone
abbrev pub is_blank : Node → Bool
is_blank (an_element tag) = false
is_blank contents = false
is_blank (a_text own) = length (behind White own.said) == 0
is_blank (a_comment own) = false
is_blank (a_doctype own) = false

abbrev pub is_blank_at : List Row → ℕ → Bool
is_blank_at rows n = option_map_or is_blank (node_at rows n) false

-- how many rows a row is below
abbrev pub depth_at : List Row → ℕ → ℕ
depth_at rows n = length (ancestors_at rows n)

-- two spaces for each node around; past 64 of them how many there are
abbrev pub depth_words : ℕ → List ℕ
depth_words depth =
    if nat_lt 64 depth
    then indentation 64 ++ (40 ∷ (decimal depth ++ codes ") "))
    else indentation depth

-- a number and a tab, where numbers are written
abbrev pub number_words : Bool → ℕ → List ℕ
number_words has_numbers n = if has_numbers then decimal n ++ 9 ∷ [] else []

-- the line of a node that has one
unfoldable pub shown_line : Bool → List Row → ℕ → List ℕ
shown_line has_numbers rows n =
    number_words has_numbers n
    ++ (depth_words (depth_at rows n) ++ (node_words rows n ++ 10 ∷ []))

-- without numbers a text of white space alone has none
abbrev pub has_line : Bool → List Row → ℕ → Bool
has_line has_numbers rows n = has_numbers || not (is_blank_at rows n)

abbrev pub node_line : Bool → List Row → ℕ → List ℕ
node_line has_numbers rows n =
    if has_line has_numbers rows n then shown_line has_numbers rows n else []

abbrev pub lines_before : Bool → List Row → ℕ → List ℕ
lines_before has_numbers rows zero = []
lines_before has_numbers rows (suc n) =
    lines_before has_numbers rows n ++ node_line has_numbers rows n

abbrev pub node_outline : Bool → List Row → List ℕ
node_outline has_numbers rows = lines_before has_numbers rows (length rows)
