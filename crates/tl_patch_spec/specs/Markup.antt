-- Texts, values and attributes as they are written into a page, so that the tokenizer reads just
-- them there.
use Rattle.std.specs.Prelude.{ℕ, ◌==◌, ◌&&◌, Bool, false, List, [], ◌∷◌, ◌++◌, flat_map, map, codes, if◌then◌else◌, not}
use Rattle.std.specs.Char.{is_ascii_alphabetic, to_ascii_lowercase}
use Rattle.std.specs.List.{list_all}
use Rattle.tl_html_spec.specs.Escapes.{text_escape, value_escape}
use Rattle.tl_html_spec.specs.HtmlTokenizer.{Character, data_state, ends_name}
use Rattle.tl_html_spec.specs.Pieces.{Piece, piece}

-- a carriage return in a page would be a line feed
abbrev pub text_byte_markup : ℕ → List ℕ
text_byte_markup b = if b == 13 then codes "&#13;" else text_escape b

abbrev pub text_markup : List ℕ → List ℕ
text_markup text = flat_map text_byte_markup text

-- `<` and `>` too, so that a value ends nothing that a browser reads around it and the tokenizer
-- by itself doesn't: the raw text of a `noscript` where scripts run, a CDATA section in `svg`
abbrev pub value_byte_markup : ℕ → List ℕ
value_byte_markup b =
    if b == 13 then codes "&#13;"
    else if b == 60 then codes "&lt;"
    else if b == 62 then codes "&gt;"
    else value_escape b

abbrev pub value_markup : List ℕ → List ℕ
value_markup value = flat_map value_byte_markup value

-- a value in double quotes
abbrev pub quoted_value : List ℕ → List ℕ
quoted_value value = 34 ∷ (value_markup value ++ 34 ∷ [])

-- NUL is U+FFFD in a value, so no value has it
abbrev pub is_without_nul : List ℕ → Bool
is_without_nul value = list_all (λ b. not (b == 0)) value

-- a key that the tokenizer keeps as it is
abbrev pub is_key_byte : ℕ → Bool
is_key_byte b = not (b == 13)
    && (not (ends_name b) && (not (b == 61) && (not (b == 0) && (to_ascii_lowercase b == b))))

abbrev pub is_key : List ℕ → Bool
is_key [] = false
is_key (b ∷ key) = list_all is_key_byte (b ∷ key)

-- a name of a tag that the tokenizer keeps as it is
abbrev pub is_name_byte : ℕ → Bool
is_name_byte b =
    not (b == 13) && (not (ends_name b) && (not (b == 0) && (to_ascii_lowercase b == b)))

abbrev pub is_name : List ℕ → Bool
is_name [] = false
is_name (b ∷ name) = is_ascii_alphabetic b && list_all is_name_byte (b ∷ name)

-- an attribute after the name of a tag
abbrev pub attribute_markup : List ℕ → List ℕ → List ℕ
attribute_markup key value = 32 ∷ (key ++ (61 ∷ quoted_value value))

-- an end tag without a name is no token, and nothing is pending after it (13.2.5.7): it stands
-- where two texts would become something else together
abbrev pub separator : List ℕ
separator = codes "</>"

abbrev pub separator_piece : Piece
separator_piece = piece data_state separator []

-- a text in `data`
abbrev pub text_piece : List ℕ → Piece
text_piece text = piece data_state (text_markup text) (map Character text)
