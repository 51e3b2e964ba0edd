-- The states in a tag after its name, apart from the tag that is being made: what a text adds to it, whatever it has.
use Rattle.std.specs.Prelude.{◌≡◌, ℕ, zero, suc, ◌+◌, ◌*◌, Bool, true, false, ◌&&◌, not, ◌==◌, List, [], ◌∷◌, ◌++◌, codes, if◌then◌else◌, ⊤}
use Rattle.std.specs.Char.{is_ascii_alphanumeric, is_ascii_digit, is_ascii_hexdigit, to_ascii_lowercase}
use Rattle.tl_html_spec.specs.References.{named_value, number_value}
use Rattle.tl_html_spec.specs.HtmlTokenizer.{HtmlAttribute, OpenTag, State, Step, after_attribute_name, after_attribute_value, attribute_name, before_attribute_name, before_attribute_value, char_of, character_reference, decimal, decimal_start, digit_value, double_quoted, ends_name, hexadecimal, hexadecimal_start, is_white_space, named_character_reference, numeric_character_reference, self_closing_start_tag, single_quoted, unquoted, with_attribute}
use Rattle.tl_html_spec.specs.HtmlTokenizer.{emitted as tag_emitted}
use Rattle.tl_patch_spec.specs.TagChanges.{has_attribute}
use Rattle.tl_html_spec.specs.Reader.{feed}

-- a value so far, with its key
pub data Value : Type 0 where
  double_quotes : List ℕ → List ℕ → Value
  single_quotes : List ℕ → List ℕ → Value
  no_quotes : List ℕ → List ℕ → Value

pub data Inside : Type 0 where
  before_key : Inside
  key_of : List ℕ → Inside
  after_key : List ℕ → Inside
  before_value : List ℕ → Inside
  value_of : Value → Inside
  after_value : Inside
  after_slash : Inside
  reference : Value → Inside
  named_reference : Value → List ℕ → Inside
  numeric_reference : Value → Inside
  hexadecimal_begin : Value → ℕ → Inside
  decimal_begin : Value → Inside
  hexadecimal_number : Value → ℕ → Inside
  decimal_number : Value → ℕ → Inside

abbrev pub value_in : Value → OpenTag → State
value_in (double_quotes key value) tag = double_quoted tag key value
value_in (single_quotes key value) tag = single_quoted tag key value
value_in (no_quotes key value) tag = unquoted tag key value

-- the state, with its tag
abbrev pub fill : Inside → OpenTag → State
fill before_key tag = before_attribute_name tag
fill (key_of key) tag = attribute_name tag key
fill (after_key key) tag = after_attribute_name tag key
fill (before_value key) tag = before_attribute_value tag key
fill (value_of v) tag = value_in v tag
fill after_value tag = after_attribute_value tag
fill after_slash tag = self_closing_start_tag tag
fill (reference v) tag = character_reference (value_in v tag)
fill (named_reference v buffer) tag = named_character_reference (value_in v tag) buffer
fill (numeric_reference v) tag = numeric_character_reference (value_in v tag)
fill (hexadecimal_begin v x) tag = hexadecimal_start (value_in v tag) x
fill (decimal_begin v) tag = decimal_start (value_in v tag)
fill (hexadecimal_number v code) tag = hexadecimal (value_in v tag) code
fill (decimal_number v code) tag = decimal (value_in v tag) code

-- the tag goes on, or ends with or without the self-closing flag; with the attributes that are added
pub data Inner : Type 0 where
  stays : Bool → Inside → List HtmlAttribute → Inner
  ends : Bool → List HtmlAttribute → Inner

abbrev pub with_all : OpenTag → List HtmlAttribute → OpenTag
with_all tag [] = tag
with_all tag (a ∷ more) = with_all (with_attribute tag a.0 a.1) more

abbrev pub applied : OpenTag → Inner → Step
applied tag (stays again inside more) = record { next = fill inside (with_all tag more); emits = []; again = again }
applied tag (ends closes more) = tag_emitted (with_all tag more) closes

abbrev pub goes : Inside → Inner
goes inside = stays false inside []

abbrev pub goes_again : Inside → Inner
goes_again inside = stays true inside []

abbrev pub with_bytes : Value → List ℕ → Value
with_bytes (double_quotes key value) bytes = double_quotes key (value ++ bytes)
with_bytes (single_quotes key value) bytes = single_quotes key (value ++ bytes)
with_bytes (no_quotes key value) bytes = no_quotes key (value ++ bytes)

abbrev pub flush : Value → List ℕ → Bool → Inner
flush v bytes again = stays again (value_of (with_bytes v bytes)) []

-- the step of a byte, as in `HtmlTokenizer`
abbrev pub inner : Inside → ℕ → Inner
inner before_key b =
    if is_white_space b then goes before_key
    else if b == 47 then goes after_slash
    else if b == 62 then ends false []
    else if b == 61 then goes (key_of (b ∷ []))
    else goes_again (key_of [])
inner (key_of key) b =
    if ends_name b then goes_again (after_key key)
    else if b == 61 then goes (before_value key)
    else goes (key_of (key ++ char_of (to_ascii_lowercase b)))
inner (after_key key) b =
    if is_white_space b then goes (after_key key)
    else if b == 47 then stays false after_slash ((key, []) ∷ [])
    else if b == 61 then goes (before_value key)
    else if b == 62 then ends false ((key, []) ∷ [])
    else stays true (key_of []) ((key, []) ∷ [])
inner (before_value key) b =
    if is_white_space b then goes (before_value key)
    else if b == 34 then goes (value_of (double_quotes key []))
    else if b == 39 then goes (value_of (single_quotes key []))
    else if b == 62 then ends false ((key, []) ∷ [])
    else goes_again (value_of (no_quotes key []))
inner (value_of (double_quotes key value)) b =
    if b == 34 then stays false after_value ((key, value) ∷ [])
    else if b == 38 then goes (reference (double_quotes key value))
    else goes (value_of (double_quotes key (value ++ char_of b)))
inner (value_of (single_quotes key value)) b =
    if b == 39 then stays false after_value ((key, value) ∷ [])
    else if b == 38 then goes (reference (single_quotes key value))
    else goes (value_of (single_quotes key (value ++ char_of b)))
inner (value_of (no_quotes key value)) b =
    if is_white_space b then stays false before_key ((key, value) ∷ [])
    else if b == 38 then goes (reference (no_quotes key value))
    else if b == 62 then ends false ((key, value) ∷ [])
    else goes (value_of (no_quotes key (value ++ char_of b)))
inner after_value b =
    if is_white_space b then goes before_key
    else if b == 47 then goes after_slash
    else if b == 62 then ends false []
    else goes_again before_key
inner after_slash b = if b == 62 then ends true [] else goes_again before_key
inner (reference v) b =
    if is_ascii_alphanumeric b then goes_again (named_reference v [])
    else if b == 35 then goes (numeric_reference v)
    else flush v (codes "&") true
inner (named_reference v buffer) b =
    if is_ascii_alphanumeric b then goes (named_reference v (buffer ++ b ∷ []))
    else if b == 59 then flush v (named_value true (buffer ++ b ∷ []) []) false
    else flush v (named_value true buffer (b ∷ [])) true
inner (numeric_reference v) b =
    if to_ascii_lowercase b == 120 then goes (hexadecimal_begin v b) else goes_again (decimal_begin v)
inner (hexadecimal_begin v x) b =
    if is_ascii_hexdigit b then goes_again (hexadecimal_number v 0) else flush v (codes "&#" ++ x ∷ []) true
inner (decimal_begin v) b =
    if is_ascii_digit b then goes_again (decimal_number v 0) else flush v (codes "&#") true
inner (hexadecimal_number v code) b =
    if is_ascii_hexdigit b then goes (hexadecimal_number v (code * 16 + digit_value b)) else flush v (number_value code) (not (b == 59))
inner (decimal_number v code) b =
    if is_ascii_digit b then goes (decimal_number v (code * 10 + digit_value b)) else flush v (number_value code) (not (b == 59))

abbrev pub adding : List HtmlAttribute → Inner → Inner
adding front (stays again inside more) = stays again inside (front ++ more)
adding front (ends closes more) = ends closes (front ++ more)

-- with its reconsumes
abbrev pub inner_settled : ℕ → Inner → ℕ → Inner
inner_settled zero x b = x
inner_settled (suc n) (stays true inside more) b = adding more (inner_settled n (inner inside b) b)
inner_settled (suc n) (stays false inside more) b = stays false inside more
inner_settled (suc n) (ends closes more) b = ends closes more

abbrev pub byte_inner : Bool → Inside → ℕ → Inner
byte_inner true inside b = goes inside
byte_inner false inside b = inner_settled 3 (inner inside (feed b)) (feed b)

-- after a text: still in the tag, or past it with what is left of the text
pub data Outcome : Type 0 where
  still : Inside → Bool → List HtmlAttribute → Outcome
  ended : Bool → List HtmlAttribute → Bool → List ℕ → Outcome

abbrev pub adding_to : List HtmlAttribute → Outcome → Outcome
adding_to front (still inside returned more) = still inside returned (front ++ more)
adding_to front (ended closes more returned rest) = ended closes (front ++ more) returned rest

abbrev pub continued : Inner → (Inside → Outcome) → Bool → List ℕ → Outcome
continued (stays again inside more) later returned text = adding_to more (later inside)
continued (ends closes more) later returned text = ended closes more returned text

abbrev pub inner_text : Inside → Bool → List ℕ → Outcome
inner_text inside returned [] = still inside returned []
inner_text inside returned (b ∷ text) =
    continued (byte_inner (returned && (b == 10)) inside b) (λ j. inner_text j (b == 13) text) (b == 13) text

-- where the text ends the tag, the tag lacks a key
abbrev pub EndsWithout : List ℕ → OpenTag → Outcome → Type 0
EndsWithout key tag (still inside returned more) = ⊤
EndsWithout key tag (ended closes more returned rest) = has_attribute key (with_all tag more) ≡ false
