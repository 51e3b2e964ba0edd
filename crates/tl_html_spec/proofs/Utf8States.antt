-- What the states of the tokenizer hold of a page in UTF-8, between two characters and inside of one.
use Rattle.std.proofs.Common.{◌≡◌, ℕ, ◌<◌, List, [], ◌++◌, IsUtf8, IsAscii, map, refl, sym, subst, append-nil}
use Rattle.std.specs.Prelude.{⊤}
use Rattle.tl_html_spec.specs.HtmlTokenizer as T
use Rattle.tl_html_spec.specs.HtmlTokenizer.{HtmlToken, Character, OpenTag, State}
use Rattle.tl_html_spec.specs.Utf8.{HaveUtf8Values}

abbrev pub Values : OpenTag → Type 0
Values tag = HaveUtf8Values tag.attributes

-- the states in which a reference may stand
abbrev pub Returns : State → Type 0
Returns T.data_state = ⊤
Returns (T.raw r) = ⊤
Returns (T.double_quoted tag key value) = Values tag × IsUtf8 value
Returns (T.single_quoted tag key value) = Values tag × IsUtf8 value
Returns (T.unquoted tag key value) = Values tag × IsUtf8 value
Returns _ = ⊥

-- between two characters
abbrev pub Holds : State → Type 0
Holds (T.tag_name tag) = Values tag
Holds (T.raw_end_tag_name r buffer) = IsAscii buffer
Holds (T.before_attribute_name tag) = Values tag
Holds (T.attribute_name tag key) = Values tag
Holds (T.after_attribute_name tag key) = Values tag
Holds (T.before_attribute_value tag key) = Values tag
Holds (T.double_quoted tag key value) = Values tag × IsUtf8 value
Holds (T.single_quoted tag key value) = Values tag × IsUtf8 value
Holds (T.unquoted tag key value) = Values tag × IsUtf8 value
Holds (T.after_attribute_value tag) = Values tag
Holds (T.self_closing_start_tag tag) = Values tag
Holds (T.bogus_comment bytes) = IsUtf8 bytes
Holds (T.markup_declaration_open buffer) = IsUtf8 buffer
Holds (T.comment bytes) = IsUtf8 bytes
Holds (T.comment_less_than_sign bytes) = IsUtf8 bytes
Holds (T.comment_less_than_sign_bang bytes) = IsUtf8 bytes
Holds (T.comment_less_than_sign_bang_dash bytes) = IsUtf8 bytes
Holds (T.comment_less_than_sign_bang_dash_dash bytes) = IsUtf8 bytes
Holds (T.comment_end_dash bytes) = IsUtf8 bytes
Holds (T.comment_end bytes) = IsUtf8 bytes
Holds (T.comment_end_bang bytes) = IsUtf8 bytes
Holds (T.character_reference s) = Returns s
Holds (T.named_character_reference s buffer) = Returns s × IsAscii buffer
Holds (T.numeric_character_reference s) = Returns s
Holds (T.hexadecimal_start s x) = Returns s × (x < 128)
Holds (T.decimal_start s) = Returns s
Holds (T.hexadecimal s code) = Returns s
Holds (T.decimal s code) = Returns s
Holds _ = ⊤

-- where these bytes are left of a character: few states take a byte above 127
abbrev pub HoldsBefore : List ℕ → State → Type 0
HoldsBefore w T.data_state = ⊤
HoldsBefore w (T.raw r) = ⊤
HoldsBefore w T.plaintext = ⊤
HoldsBefore w T.script_data_double_escaped = ⊤
HoldsBefore w T.doctype = ⊤
HoldsBefore w (T.tag_name tag) = Values tag
HoldsBefore w (T.attribute_name tag key) = Values tag
HoldsBefore w (T.double_quoted tag key value) = Values tag × IsUtf8 (value ++ w)
HoldsBefore w (T.single_quoted tag key value) = Values tag × IsUtf8 (value ++ w)
HoldsBefore w (T.unquoted tag key value) = Values tag × IsUtf8 (value ++ w)
HoldsBefore w (T.bogus_comment bytes) = IsUtf8 (bytes ++ w)
HoldsBefore w (T.comment bytes) = IsUtf8 (bytes ++ w)
HoldsBefore w s = (w ≡ []) × Holds s

-- and what they emit of it
abbrev pub pending : State → List ℕ → List HtmlToken
pending T.data_state w = map Character w
pending (T.raw r) w = map Character w
pending T.plaintext w = map Character w
pending T.script_data_double_escaped w = map Character w
pending _ w = []

-- where nothing is left of it

pub none_pending : (s : State) → pending s [] ≡ []
none_pending T.data_state = refl
none_pending (T.raw r) = refl
none_pending T.plaintext = refl
none_pending T.script_data_double_escaped = refl
none_pending _ = refl

pub begun : (s : State) → Holds s → HoldsBefore [] s
begun T.data_state h = tt
begun (T.raw r) h = tt
begun T.plaintext h = tt
begun T.script_data_double_escaped h = tt
begun T.doctype h = tt
begun (T.tag_name tag) h = h
begun (T.attribute_name tag key) h = h
begun (T.double_quoted tag key value) h = (h.0, subst IsUtf8 (sym (append-nil value)) h.1)
begun (T.single_quoted tag key value) h = (h.0, subst IsUtf8 (sym (append-nil value)) h.1)
begun (T.unquoted tag key value) h = (h.0, subst IsUtf8 (sym (append-nil value)) h.1)
begun (T.bogus_comment bytes) h = subst IsUtf8 (sym (append-nil bytes)) h
begun (T.comment bytes) h = subst IsUtf8 (sym (append-nil bytes)) h
begun _ h = (refl, h)

pub ended : (s : State) → HoldsBefore [] s → Holds s
ended T.data_state h = tt
ended (T.raw r) h = tt
ended T.plaintext h = tt
ended T.script_data_double_escaped h = tt
ended T.doctype h = tt
ended (T.tag_name tag) h = h
ended (T.attribute_name tag key) h = h
ended (T.double_quoted tag key value) h = (h.0, subst IsUtf8 (append-nil value) h.1)
ended (T.single_quoted tag key value) h = (h.0, subst IsUtf8 (append-nil value) h.1)
ended (T.unquoted tag key value) h = (h.0, subst IsUtf8 (append-nil value) h.1)
ended (T.bogus_comment bytes) h = subst IsUtf8 (append-nil bytes) h
ended (T.comment bytes) h = subst IsUtf8 (append-nil bytes) h
ended _ h = h.1
