-- The tokenizer of the HTML standard, whole: 13.2.5.1 to 13.2.5.80, with what stands before it
-- (13.2.3.5).
--
-- It goes over bytes, since the contracts speak of the bytes of a page: no state tells two
-- characters above 127 apart, so what is emitted here are the bytes, in UTF-8, of the characters
-- that the standard emits.
--
-- Said otherwise than there, with the same tokens:
-- - A named reference (13.2.5.73) is resolved where its letters and digits end, or its `;`, in the
--   place of looking ahead from its `&`.
-- - What follows `<!` (13.2.5.42) is collected, in the place of looking ahead.
-- - A doctype has no parts: each of 13.2.5.53 to .68 ends at the first `>`.
-- - A key that the tag has already is not added (13.2.5.33), in the place of being removed later.
--
-- Left to tree construction, which is here in two ways:
-- - After some start tags it sets the state (`after_start`), by the name alone: as it does outside
--   of `svg` and `math`, and with scripting off, so that `noscript` holds markup.
-- - `<![CDATA[` begins a bogus comment, as it does outside of `svg` and `math`; so 13.2.5.69 to .71
--   are never come to.
use Rattle.std.specs.Prelude.{ℕ, zero, suc, ◌+◌, ◌-◌, ◌*◌, Bool, true, false, ◌||◌, ◌&&◌, not, ◌==◌, List, [], ◌∷◌, ◌++◌, drop, map, codes, if◌then◌else◌}
use Rattle.std.specs.Char.{is_ascii_alphabetic, is_ascii_alphanumeric, is_ascii_digit, is_ascii_hexdigit, to_ascii_lowercase}
use Rattle.std.specs.List.{list_any, starts_with}
use Rattle.std.specs.Str.{bytes_eq}
use Rattle.tl_names.specs.Elements.{is_among, rawtext_names, rcdata_names}
use Rattle.tl_html_spec.specs.References.{named_value, number_value}

-- a key and its value, which is empty where there is none
abbrev pub HtmlAttribute : Type 0
HtmlAttribute = List ℕ × List ℕ

-- a start tag says its name, its attributes, and whether it has the self-closing flag
pub data HtmlToken : Type 0 where
  Character : ℕ → HtmlToken
  StartTag : List ℕ → List HtmlAttribute → Bool → HtmlToken
  EndTag : List ℕ → HtmlToken
  CommentToken : List ℕ → HtmlToken
  DoctypeToken : HtmlToken

-- the tag token that is being made
pub record OpenTag : Type 0 where
  pub is_end : Bool
  pub name : List ℕ
  pub attributes : List HtmlAttribute

-- texts that their own end tag alone ends, that of the element whose name is given, or of a script
pub data Raw : Type 0 where
  -- 13.2.5.2
  rcdata : List ℕ → Raw
  -- 13.2.5.3
  rawtext : List ℕ → Raw
  -- 13.2.5.4
  script_data : Raw
  -- 13.2.5.20
  script_data_escaped : Raw
  -- 13.2.5.21
  script_data_escaped_dash : Raw
  -- 13.2.5.22
  script_data_escaped_dash_dash : Raw

-- the states, by the names of their sections
pub data State : Type 0 where
  -- 13.2.5.1
  data_state : State
  -- 13.2.5.2, .3, .4, .20, .21, .22
  raw : Raw → State
  -- 13.2.5.5
  plaintext : State
  -- 13.2.5.6
  tag_open : State
  -- 13.2.5.7
  end_tag_open : State
  -- 13.2.5.8
  tag_name : OpenTag → State
  -- 13.2.5.9, .12, .15, .23
  raw_less_than_sign : Raw → State
  -- 13.2.5.10, .13, .16, .24
  raw_end_tag_open : Raw → State
  -- 13.2.5.11, .14, .17, .25, with the temporary buffer
  raw_end_tag_name : Raw → List ℕ → State
  -- 13.2.5.18
  script_data_escape_start : State
  -- 13.2.5.19
  script_data_escape_start_dash : State
  -- 13.2.5.26, with the temporary buffer
  script_data_double_escape_start : List ℕ → State
  -- 13.2.5.27
  script_data_double_escaped : State
  -- 13.2.5.28
  script_data_double_escaped_dash : State
  -- 13.2.5.29
  script_data_double_escaped_dash_dash : State
  -- 13.2.5.30
  script_data_double_escaped_less_than_sign : State
  -- 13.2.5.31, with the temporary buffer
  script_data_double_escape_end : List ℕ → State
  -- 13.2.5.32
  before_attribute_name : OpenTag → State
  -- 13.2.5.33, with the key
  attribute_name : OpenTag → List ℕ → State
  -- 13.2.5.34, with the key, which may yet get a value
  after_attribute_name : OpenTag → List ℕ → State
  -- 13.2.5.35, with the key
  before_attribute_value : OpenTag → List ℕ → State
  -- 13.2.5.36, with the key and the value
  double_quoted : OpenTag → List ℕ → List ℕ → State
  -- 13.2.5.37, with the key and the value
  single_quoted : OpenTag → List ℕ → List ℕ → State
  -- 13.2.5.38, with the key and the value
  unquoted : OpenTag → List ℕ → List ℕ → State
  -- 13.2.5.39
  after_attribute_value : OpenTag → State
  -- 13.2.5.40
  self_closing_start_tag : OpenTag → State
  -- 13.2.5.41, with the data of the comment, as in those that follow
  bogus_comment : List ℕ → State
  -- 13.2.5.42, with what was read of `--` or `doctype`
  markup_declaration_open : List ℕ → State
  -- 13.2.5.43
  comment_start : State
  -- 13.2.5.44
  comment_start_dash : State
  -- 13.2.5.45
  comment : List ℕ → State
  -- 13.2.5.46
  comment_less_than_sign : List ℕ → State
  -- 13.2.5.47
  comment_less_than_sign_bang : List ℕ → State
  -- 13.2.5.48
  comment_less_than_sign_bang_dash : List ℕ → State
  -- 13.2.5.49
  comment_less_than_sign_bang_dash_dash : List ℕ → State
  -- 13.2.5.50
  comment_end_dash : List ℕ → State
  -- 13.2.5.51
  comment_end : List ℕ → State
  -- 13.2.5.52
  comment_end_bang : List ℕ → State
  -- 13.2.5.53 to .68
  doctype : State
  -- 13.2.5.72, with the return state, as in those that follow
  character_reference : State → State
  -- 13.2.5.73, .74, with the letters and digits after the `&`
  named_character_reference : State → List ℕ → State
  -- 13.2.5.75
  numeric_character_reference : State → State
  -- 13.2.5.76, with the `x` as it is written
  hexadecimal_start : State → ℕ → State
  -- 13.2.5.77
  decimal_start : State → State
  -- 13.2.5.78, with the number so far
  hexadecimal : State → ℕ → State
  -- 13.2.5.79, with the number so far
  decimal : State → ℕ → State

-- tab, line feed, form feed, space: carriage returns are gone before
abbrev pub is_white_space : ℕ → Bool
is_white_space b = (b == 9) || (b == 10) || (b == 12) || (b == 32)

-- what ends the name of a tag
abbrev pub ends_name : ℕ → Bool
ends_name b = is_white_space b || (b == 47) || (b == 62)

-- U+FFFD
abbrev pub replacement : List ℕ
replacement = 0xEF ∷ 0xBF ∷ 0xBD ∷ []

-- a character, where NUL is replaced
abbrev pub char_of : ℕ → List ℕ
char_of b = if b == 0 then replacement else b ∷ []

-- the state after a byte, the tokens that it emits, and whether the byte is read once more there
-- ("reconsume")
pub record Step : Type 0 where
  pub next : State
  pub emits : List HtmlToken
  pub again : Bool

abbrev pub to : State → Step
to state = record { next = state; emits = []; again = false }

abbrev pub again_in : State → Step
again_in state = record { next = state; emits = []; again = true }

abbrev pub emitting : List ℕ → State → Step
emitting bytes state = record { next = state; emits = map Character bytes; again = false }

abbrev pub emitting_again : List ℕ → State → Step
emitting_again bytes state = record { next = state; emits = map Character bytes; again = true }

abbrev pub emitting_token : HtmlToken → State → Step
emitting_token token state = record { next = state; emits = token ∷ []; again = false }

abbrev pub new_tag : Bool → OpenTag
new_tag is_end = record { is_end = is_end; name = []; attributes = [] }

abbrev pub with_letter : OpenTag → ℕ → OpenTag
with_letter tag b = record tag { name = tag.name ++ char_of (to_ascii_lowercase b) }

-- the first of two equal keys stays
abbrev pub with_attribute : OpenTag → List ℕ → List ℕ → OpenTag
with_attribute tag key value =
    if list_any (λ a. bytes_eq a.0 key) tag.attributes then tag
    else record tag { attributes = tag.attributes ++ (key, value) ∷ [] }

-- the state that tree construction sets after a start tag of this name (13.2.6.4.4, .7)
abbrev pub after_start : List ℕ → State
after_start name =
    if is_among rcdata_names name then raw (rcdata name)
    else if is_among rawtext_names name then raw (rawtext name)
    else if bytes_eq name (codes "script") then raw script_data
    else if bytes_eq name (codes "plaintext") then plaintext
    else data_state

-- the tag is emitted; of an end tag its name alone
abbrev pub emitted : OpenTag → Bool → Step
emitted tag closes =
    if tag.is_end then emitting_token (EndTag tag.name) data_state
    else emitting_token (StartTag tag.name tag.attributes closes) (after_start tag.name)

-- the name of the end tag that ends such a text
abbrev pub own_name : Raw → List ℕ
own_name (rcdata name) = name
own_name (rawtext name) = name
own_name _ = codes "script"

-- that end tag, once its name is whole
abbrev pub own_end_tag : Raw → OpenTag
own_end_tag r = record { is_end = true; name = own_name r; attributes = [] }

-- whether the temporary buffer is the name of an appropriate end tag
abbrev pub is_appropriate : Raw → List ℕ → Bool
is_appropriate r buffer = bytes_eq (map to_ascii_lowercase buffer) (own_name r)

-- a character of such a text
abbrev pub in_raw : Raw → ℕ → Step
-- 13.2.5.2
in_raw (rcdata name) b =
    if b == 38 then to (character_reference (raw (rcdata name)))
    else if b == 60 then to (raw_less_than_sign (rcdata name))
    else emitting (char_of b) (raw (rcdata name))
-- 13.2.5.3
in_raw (rawtext name) b =
    if b == 60 then to (raw_less_than_sign (rawtext name))
    else emitting (char_of b) (raw (rawtext name))
-- 13.2.5.4
in_raw script_data b =
    if b == 60 then to (raw_less_than_sign script_data)
    else emitting (char_of b) (raw script_data)
-- 13.2.5.20
in_raw script_data_escaped b =
    if b == 45 then emitting (codes "-") (raw script_data_escaped_dash)
    else if b == 60 then to (raw_less_than_sign script_data_escaped)
    else emitting (char_of b) (raw script_data_escaped)
-- 13.2.5.21
in_raw script_data_escaped_dash b =
    if b == 45 then emitting (codes "-") (raw script_data_escaped_dash_dash)
    else if b == 60 then to (raw_less_than_sign script_data_escaped)
    else emitting (char_of b) (raw script_data_escaped)
-- 13.2.5.22
in_raw script_data_escaped_dash_dash b =
    if b == 45 then emitting (codes "-") (raw script_data_escaped_dash_dash)
    else if b == 60 then to (raw_less_than_sign script_data_escaped)
    else if b == 62 then emitting (codes ">") (raw script_data)
    else emitting (char_of b) (raw script_data_escaped)

-- a character after `<` in such a text, but for `/`
abbrev pub after_less_than_sign : Raw → ℕ → Step
-- 13.2.5.15
after_less_than_sign script_data b =
    if b == 33 then emitting (codes "<!") script_data_escape_start
    else emitting_again (codes "<") (raw script_data)
-- 13.2.5.23
after_less_than_sign script_data_escaped b =
    if is_ascii_alphabetic b then emitting_again (codes "<") (script_data_double_escape_start [])
    else emitting_again (codes "<") (raw script_data_escaped)
-- 13.2.5.9, .12
after_less_than_sign r b = emitting_again (codes "<") (raw r)

-- a double escape begins and ends after the word `script`
abbrev pub after_word : List ℕ → State → State → State
after_word buffer script other = if bytes_eq buffer (codes "script") then script else other

-- whether what was read may still become this word
abbrev pub begins : List ℕ → List ℕ → Bool
begins word buffer = starts_with ◌==◌ word (map to_ascii_lowercase buffer)

-- whether a reference stands in the value of an attribute, as its return state says
abbrev pub is_value : State → Bool
is_value (double_quoted tag key value) = true
is_value (single_quoted tag key value) = true
is_value (unquoted tag key value) = true
is_value _ = false

-- what a reference gives goes to its return state: into the value, or out as characters
abbrev pub flushed : State → List ℕ → Bool → Step
flushed (double_quoted tag key value) bytes again = record {
  next = double_quoted tag key (value ++ bytes);
  emits = [];
  again = again;
}
flushed (single_quoted tag key value) bytes again = record {
  next = single_quoted tag key (value ++ bytes);
  emits = [];
  again = again;
}
flushed (unquoted tag key value) bytes again = record {
  next = unquoted tag key (value ++ bytes);
  emits = [];
  again = again;
}
flushed state bytes again = record { next = state; emits = map Character bytes; again = again }

-- the value of a digit of base 10 or 16
abbrev pub digit_value : ℕ → ℕ
digit_value b = if is_ascii_digit b then b - 48 else to_ascii_lowercase b - 87

-- what a byte does in a state
abbrev pub step : State → ℕ → Step
-- 13.2.5.1, where a NUL stays
step data_state b =
    if b == 38 then to (character_reference data_state)
    else if b == 60 then to tag_open
    else emitting (b ∷ []) data_state
-- 13.2.5.2, .3, .4, .20, .21, .22
step (raw r) b = in_raw r b
-- 13.2.5.5
step plaintext b = emitting (char_of b) plaintext
-- 13.2.5.6
step tag_open b =
    if b == 33 then to (markup_declaration_open [])
    else if b == 47 then to end_tag_open
    else if is_ascii_alphabetic b then again_in (tag_name (new_tag false))
    else if b == 63 then again_in (bogus_comment [])
    else emitting_again (codes "<") data_state
-- 13.2.5.7
step end_tag_open b =
    if is_ascii_alphabetic b then again_in (tag_name (new_tag true))
    else if b == 62 then to data_state
    else again_in (bogus_comment [])
-- 13.2.5.8
step (tag_name tag) b =
    if is_white_space b then to (before_attribute_name tag)
    else if b == 47 then to (self_closing_start_tag tag)
    else if b == 62 then emitted tag false
    else to (tag_name (with_letter tag b))
-- 13.2.5.9, .12, .15, .23
step (raw_less_than_sign r) b =
    if b == 47 then to (raw_end_tag_open r) else after_less_than_sign r b
-- 13.2.5.10, .13, .16, .24
step (raw_end_tag_open r) b =
    if is_ascii_alphabetic b then again_in (raw_end_tag_name r [])
    else emitting_again (codes "</") (raw r)
-- 13.2.5.11, .14, .17, .25
step (raw_end_tag_name r buffer) b =
    if is_white_space b && is_appropriate r buffer then to (before_attribute_name (own_end_tag r))
    else if (b == 47) && is_appropriate r buffer then to (self_closing_start_tag (own_end_tag r))
    else if (b == 62) && is_appropriate r buffer then emitted (own_end_tag r) false
    else if is_ascii_alphabetic b then to (raw_end_tag_name r (buffer ++ b ∷ []))
    else emitting_again (codes "</" ++ buffer) (raw r)
-- 13.2.5.18
step script_data_escape_start b =
    if b == 45 then emitting (codes "-") script_data_escape_start_dash
    else again_in (raw script_data)
-- 13.2.5.19
step script_data_escape_start_dash b =
    if b == 45 then emitting (codes "-") (raw script_data_escaped_dash_dash)
    else again_in (raw script_data)
-- 13.2.5.26
step (script_data_double_escape_start buffer) b =
    if ends_name b then emitting (b ∷ [])
    (after_word buffer script_data_double_escaped (raw script_data_escaped))
    else if is_ascii_alphabetic b then emitting (b ∷ [])
    (script_data_double_escape_start (buffer ++ to_ascii_lowercase b ∷ []))
    else again_in (raw script_data_escaped)
-- 13.2.5.27
step script_data_double_escaped b =
    if b == 45 then emitting (codes "-") script_data_double_escaped_dash
    else if b == 60 then emitting (codes "<") script_data_double_escaped_less_than_sign
    else emitting (char_of b) script_data_double_escaped
-- 13.2.5.28
step script_data_double_escaped_dash b =
    if b == 45 then emitting (codes "-") script_data_double_escaped_dash_dash
    else if b == 60 then emitting (codes "<") script_data_double_escaped_less_than_sign
    else emitting (char_of b) script_data_double_escaped
-- 13.2.5.29
step script_data_double_escaped_dash_dash b =
    if b == 45 then emitting (codes "-") script_data_double_escaped_dash_dash
    else if b == 60 then emitting (codes "<") script_data_double_escaped_less_than_sign
    else if b == 62 then emitting (codes ">") (raw script_data)
    else emitting (char_of b) script_data_double_escaped
-- 13.2.5.30
step script_data_double_escaped_less_than_sign b =
    if b == 47 then emitting (codes "/") (script_data_double_escape_end [])
    else again_in script_data_double_escaped
-- 13.2.5.31
step (script_data_double_escape_end buffer) b =
    if ends_name b then emitting (b ∷ [])
    (after_word buffer (raw script_data_escaped) script_data_double_escaped)
    else if is_ascii_alphabetic b then emitting (b ∷ [])
    (script_data_double_escape_end (buffer ++ to_ascii_lowercase b ∷ []))
    else again_in script_data_double_escaped
-- 13.2.5.32, where `/` and `>` are read as after a key, and there is none
step (before_attribute_name tag) b =
    if is_white_space b then to (before_attribute_name tag)
    else if b == 47 then to (self_closing_start_tag tag)
    else if b == 62 then emitted tag false
    else if b == 61 then to (attribute_name tag (b ∷ []))
    else again_in (attribute_name tag [])
-- 13.2.5.33
step (attribute_name tag key) b =
    if ends_name b then again_in (after_attribute_name tag key)
    else if b == 61 then to (before_attribute_value tag key)
    else to (attribute_name tag (key ++ char_of (to_ascii_lowercase b)))
-- 13.2.5.34
step (after_attribute_name tag key) b =
    if is_white_space b then to (after_attribute_name tag key)
    else if b == 47 then to (self_closing_start_tag (with_attribute tag key []))
    else if b == 61 then to (before_attribute_value tag key)
    else if b == 62 then emitted (with_attribute tag key []) false
    else again_in (attribute_name (with_attribute tag key []) [])
-- 13.2.5.35
step (before_attribute_value tag key) b =
    if is_white_space b then to (before_attribute_value tag key)
    else if b == 34 then to (double_quoted tag key [])
    else if b == 39 then to (single_quoted tag key [])
    else if b == 62 then emitted (with_attribute tag key []) false
    else again_in (unquoted tag key [])
-- 13.2.5.36
step (double_quoted tag key value) b =
    if b == 34 then to (after_attribute_value (with_attribute tag key value))
    else if b == 38 then to (character_reference (double_quoted tag key value))
    else to (double_quoted tag key (value ++ char_of b))
-- 13.2.5.37
step (single_quoted tag key value) b =
    if b == 39 then to (after_attribute_value (with_attribute tag key value))
    else if b == 38 then to (character_reference (single_quoted tag key value))
    else to (single_quoted tag key (value ++ char_of b))
-- 13.2.5.38
step (unquoted tag key value) b =
    if is_white_space b then to (before_attribute_name (with_attribute tag key value))
    else if b == 38 then to (character_reference (unquoted tag key value))
    else if b == 62 then emitted (with_attribute tag key value) false
    else to (unquoted tag key (value ++ char_of b))
-- 13.2.5.39
step (after_attribute_value tag) b =
    if is_white_space b then to (before_attribute_name tag)
    else if b == 47 then to (self_closing_start_tag tag)
    else if b == 62 then emitted tag false
    else again_in (before_attribute_name tag)
-- 13.2.5.40
step (self_closing_start_tag tag) b =
    if b == 62 then emitted tag true else again_in (before_attribute_name tag)
-- 13.2.5.41
step (bogus_comment bytes) b =
    if b == 62 then emitting_token (CommentToken bytes) data_state
    else to (bogus_comment (bytes ++ char_of b))
-- 13.2.5.42
step (markup_declaration_open buffer) b =
    if bytes_eq (buffer ++ b ∷ []) (codes "--") then to comment_start
    else if bytes_eq (map to_ascii_lowercase (buffer ++ b ∷ [])) (codes "doctype") then to doctype
    else if begins (codes "--") (buffer ++ b ∷ [])
    || begins (codes "doctype") (buffer ++ b ∷ []) then
    to (markup_declaration_open (buffer ++ b ∷ []))
    else again_in (bogus_comment buffer)
-- 13.2.5.43
step comment_start b =
    if b == 45 then to comment_start_dash
    else if b == 62 then emitting_token (CommentToken []) data_state
    else again_in (comment [])
-- 13.2.5.44
step comment_start_dash b =
    if b == 45 then to (comment_end [])
    else if b == 62 then emitting_token (CommentToken []) data_state
    else again_in (comment (codes "-"))
-- 13.2.5.45
step (comment bytes) b =
    if b == 60 then to (comment_less_than_sign (bytes ++ b ∷ []))
    else if b == 45 then to (comment_end_dash bytes)
    else to (comment (bytes ++ char_of b))
-- 13.2.5.46
step (comment_less_than_sign bytes) b =
    if b == 33 then to (comment_less_than_sign_bang (bytes ++ b ∷ []))
    else if b == 60 then to (comment_less_than_sign (bytes ++ b ∷ []))
    else again_in (comment bytes)
-- 13.2.5.47
step (comment_less_than_sign_bang bytes) b =
    if b == 45 then to (comment_less_than_sign_bang_dash bytes) else again_in (comment bytes)
-- 13.2.5.48
step (comment_less_than_sign_bang_dash bytes) b =
    if b == 45 then to (comment_less_than_sign_bang_dash_dash bytes)
    else again_in (comment_end_dash bytes)
-- 13.2.5.49
step (comment_less_than_sign_bang_dash_dash bytes) b = again_in (comment_end bytes)
-- 13.2.5.50
step (comment_end_dash bytes) b =
    if b == 45 then to (comment_end bytes) else again_in (comment (bytes ++ codes "-"))
-- 13.2.5.51
step (comment_end bytes) b =
    if b == 62 then emitting_token (CommentToken bytes) data_state
    else if b == 33 then to (comment_end_bang bytes)
    else if b == 45 then to (comment_end (bytes ++ codes "-"))
    else again_in (comment (bytes ++ codes "--"))
-- 13.2.5.52
step (comment_end_bang bytes) b =
    if b == 45 then to (comment_end_dash (bytes ++ codes "--!"))
    else if b == 62 then emitting_token (CommentToken bytes) data_state
    else again_in (comment (bytes ++ codes "--!"))
-- 13.2.5.53 to .68
step doctype b = if b == 62 then emitting_token DoctypeToken data_state else to doctype
-- 13.2.5.72
step (character_reference state) b =
    if is_ascii_alphanumeric b then again_in (named_character_reference state [])
    else if b == 35 then to (numeric_character_reference state)
    else flushed state (codes "&") true
-- 13.2.5.73, .74
step (named_character_reference state buffer) b =
    if is_ascii_alphanumeric b then to (named_character_reference state (buffer ++ b ∷ []))
    else if b == 59 then flushed state (named_value (is_value state) (buffer ++ b ∷ []) []) false
    else flushed state (named_value (is_value state) buffer (b ∷ [])) true
-- 13.2.5.75
step (numeric_character_reference state) b =
    if to_ascii_lowercase b == 120 then to (hexadecimal_start state b)
    else again_in (decimal_start state)
-- 13.2.5.76
step (hexadecimal_start state x) b =
    if is_ascii_hexdigit b then again_in (hexadecimal state 0)
    else flushed state (codes "&#" ++ x ∷ []) true
-- 13.2.5.77
step (decimal_start state) b =
    if is_ascii_digit b then again_in (decimal state 0) else flushed state (codes "&#") true
-- 13.2.5.78, .80
step (hexadecimal state code) b =
    if is_ascii_hexdigit b then to (hexadecimal state (code * 16 + digit_value b))
    else flushed state (number_value code) (not (b == 59))
-- 13.2.5.79, .80
step (decimal state code) b =
    if is_ascii_digit b then to (decimal state (code * 10 + digit_value b))
    else flushed state (number_value code) (not (b == 59))

-- a step of a byte with at most so many reconsumes
abbrev pub settled : ℕ → Step → ℕ → Step
settled zero s b = s
settled (suc n) s b =
    elim s.again as (λ _. Step) [
      | false ↦ s
      | true ↦ (let r = settled n (step s.next b) b in record r { emits = s.emits ++ r.emits })
    ]

-- with at most three reconsumes, which are enough (law `tokens_are_sound`)
abbrev pub whole_step : State → ℕ → Step
whole_step state b = settled 3 (step state b) b

-- what the end of the text emits, where references are no matter: a tag that is cut is dropped
abbrev pub at_end_of : State → List HtmlToken
at_end_of tag_open = map Character (codes "<")
at_end_of end_tag_open = map Character (codes "</")
at_end_of (raw_less_than_sign r) = map Character (codes "<")
at_end_of (raw_end_tag_open r) = map Character (codes "</")
at_end_of (raw_end_tag_name r buffer) = map Character (codes "</" ++ buffer)
at_end_of (bogus_comment bytes) = CommentToken bytes ∷ []
at_end_of (markup_declaration_open buffer) = CommentToken buffer ∷ []
at_end_of comment_start = CommentToken [] ∷ []
at_end_of comment_start_dash = CommentToken [] ∷ []
at_end_of (comment bytes) = CommentToken bytes ∷ []
at_end_of (comment_less_than_sign bytes) = CommentToken bytes ∷ []
at_end_of (comment_less_than_sign_bang bytes) = CommentToken bytes ∷ []
at_end_of (comment_less_than_sign_bang_dash bytes) = CommentToken bytes ∷ []
at_end_of (comment_less_than_sign_bang_dash_dash bytes) = CommentToken bytes ∷ []
at_end_of (comment_end_dash bytes) = CommentToken bytes ∷ []
at_end_of (comment_end bytes) = CommentToken bytes ∷ []
at_end_of (comment_end_bang bytes) = CommentToken bytes ∷ []
at_end_of doctype = DoctypeToken ∷ []
at_end_of _ = []

-- a reference that the end of the text cuts gives what it is; of a value nothing comes, as of its
-- tag
abbrev pub at_end : State → List HtmlToken
at_end (character_reference state) = (flushed state (codes "&") false).emits
at_end (named_character_reference state buffer) =
    (flushed state (named_value (is_value state) buffer []) false).emits
at_end (numeric_character_reference state) = (flushed state (codes "&#") false).emits
at_end (hexadecimal_start state x) = (flushed state (codes "&#" ++ x ∷ []) false).emits
at_end (decimal_start state) = (flushed state (codes "&#") false).emits
at_end (hexadecimal state code) = (flushed state (number_value code) false).emits
at_end (decimal state code) = (flushed state (number_value code) false).emits
at_end state = at_end_of state

-- the tokens of a text, from a state
abbrev pub tokens_from : State → List ℕ → List HtmlToken
tokens_from state [] = at_end state
tokens_from state (b ∷ text) =
    (whole_step state b).emits ++ tokens_from (whole_step state b).next text

-- line feeds at the ends of lines (13.2.3.5)
abbrev pub with_feeds : List ℕ → List ℕ
with_feeds [] = []
with_feeds (b ∷ []) = (if b == 13 then 10 else b) ∷ []
with_feeds (b ∷ c ∷ text) =
    if (b == 13) && (c == 10) then with_feeds (c ∷ text)
    else (if b == 13 then 10 else b) ∷ with_feeds (c ∷ text)

-- without a byte order mark at the front, which belongs to the encoding
abbrev pub without_mark : List ℕ → List ℕ
without_mark text = if starts_with ◌==◌ text (0xEF ∷ 0xBB ∷ 0xBF ∷ []) then drop 3 text else text

-- the tokens of a text that stands in a page, from its data state
abbrev pub tokens_in_page : List ℕ → List HtmlToken
tokens_in_page text = tokens_from data_state (with_feeds text)

-- the tokens of a page
abbrev pub html_tokens : List ℕ → List HtmlToken
html_tokens page = tokens_in_page (without_mark page)
