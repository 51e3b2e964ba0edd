-- Names made of the texts of elements, as ids for headings.
use Rattle.std.specs.Option.{is_some}
use Rattle.std.specs.Prelude.{List, None, Option, Some, [], flat_map, if◌then◌else◌, length, suc, zero, ℕ, ◌++◌, ◌∷◌}
use Rattle.std.specs.Str.{str_to_ascii_lowercase}
use Rattle.std.specs.Str.Lossy.{utf8_lossy}
use Rattle.tl_tree.specs.Asked.{attributes_at}
use Rattle.tl_tree.specs.Below.{is_filled, text_content, words_of}
use Rattle.tl_tree.specs.Rows.{Row}
use Rattle.tl_values.specs.Keys.{value_at}
use Rattle.tl_values.specs.Names.{unique, with_made, with_name}

-- words with a `-` between them
abbrev pub dashed : List (List ℕ) → List ℕ
dashed [] = []
dashed (word ∷ words) = word ++ flat_map (λ other. 45 ∷ other) words

-- the words of a text, in lower case, with a `-` between them
abbrev pub slug : List ℕ → List ℕ
slug text = str_to_ascii_lowercase (utf8_lossy (dashed (words_of text)))

-- one more value that is used, if there is one
abbrev pub with_value : List (List ℕ) → Option (List ℕ) → List (List ℕ)
with_value used None = used
with_value used (Some value) = with_name used (utf8_lossy value)

-- the values that stand at a key in the rows before a number
abbrev pub names_before : List ℕ → List Row → ℕ → List (List ℕ)
names_before key rows zero = []
names_before key rows (suc n) =
    with_value (names_before key rows n) (value_at key (attributes_at rows n))

-- those of a page
abbrev pub page_names : List ℕ → List Row → List (List ℕ)
page_names key rows = names_before key rows (length rows)

-- a name, unless it is empty
abbrev pub unique_filled : List (List ℕ) → List ℕ → Option (List ℕ)
unique_filled used name = if is_filled name then unique used name else None

-- the name that an element gets which has no value at the key: of a text without words none
abbrev pub text_name : List ℕ → List Row → List (List ℕ) → ℕ → Option (List ℕ)
text_name key rows used number =
    if is_some (value_at key (attributes_at rows number))
    then None
    else unique_filled used (slug (text_content rows number))

abbrev pub named : ℕ → Option (List ℕ) → List (ℕ × List ℕ)
named number None = []
named number (Some name) = (number, name) ∷ []

-- the names that these elements get one after the other, each another one than those before
abbrev pub names_got : List ℕ → List Row → List (List ℕ) → List ℕ → List (ℕ × List ℕ)
names_got key rows used [] = []
names_got key rows used (number ∷ numbers) =
    let name = text_name key rows used number in
    named number name ++ names_got key rows (with_made used name) numbers
