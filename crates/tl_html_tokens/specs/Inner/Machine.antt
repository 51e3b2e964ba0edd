-- What a byte does at a stage: the steps of the standard's states with what they reconsume, by the
-- names of its sections, without what they collect. A word is the bytes of a name so far.
use Rattle.std.specs.Prelude.{ℕ, Bool, true, false, ◌||◌, ◌&&◌, ◌==◌, List, [], ◌∷◌, ◌++◌, drop, map, codes, if◌then◌else◌}
use Rattle.std.specs.Char.{is_ascii_alphabetic, is_ascii_alphanumeric, is_ascii_digit, is_ascii_hexdigit, to_ascii_lowercase}
use Rattle.std.specs.Str.{bytes_eq}
use Rattle.tl_html_spec.specs.HtmlTokenizer.{begins, ends_name, is_white_space}
use Rattle.tl_html_tokens.specs.Modes.{mode_after, own_name}
use Rattle.tl_html_tokens.specs.declared.mode.Mode.{Mode}
use Rattle.tl_html_tokens.specs.declared.mode.Mode.TheVariants as mode
use Rattle.tl_html_tokens.specs.declared.stage.TokenKind.{TokenKind}
use Rattle.tl_html_tokens.specs.declared.stage.TokenKind.TheVariants as kind
use Rattle.tl_html_tokens.specs.declared.stage.Tag.{Tag}
use Rattle.tl_html_tokens.specs.declared.stage.Quote.{Quote}
use Rattle.tl_html_tokens.specs.declared.stage.Quote.TheVariants as quote
use Rattle.tl_html_tokens.specs.declared.stage.Place.{Place}
use Rattle.tl_html_tokens.specs.declared.stage.Place.TheVariants as place
use Rattle.tl_html_tokens.specs.declared.stage.Stage.{Stage}
use Rattle.tl_html_tokens.specs.declared.stage.Stage.TheVariants as stage
use Rattle.tl_html_tokens.specs.declared.stage.Turn.{Turn}
use Rattle.tl_html_tokens.specs.declared.stage.Turn.TheVariants.{Goes, Ends}

-- tags

abbrev pub tag_kind : Bool → TokenKind
tag_kind is_end = if is_end then kind.EndTag else kind.StartTag

-- the tag ends
abbrev pub tag_end : Tag → Turn
tag_end tag = Goes (stage.Whole (tag_kind tag.is_end) tag.mode)

abbrev pub end_tag : Tag
end_tag = record { is_end = true; mode = mode.Data }

-- a tag of this name
abbrev pub named_tag : Bool → List ℕ → Tag
named_tag is_end word =
    if is_end then end_tag else record { is_end = false; mode = mode_after word }

-- what ends a name or begins an attribute
abbrev pub tag_name : Bool → List ℕ → ℕ → Turn
tag_name is_end word b =
    if is_white_space b then Goes (stage.BeforeKey (named_tag is_end word))
    else if b == 47 then Goes (stage.SelfClosing (named_tag is_end word))
    else if b == 62 then tag_end (named_tag is_end word)
    else Goes (stage.TagName is_end)

abbrev pub before_key : Tag → ℕ → Turn
before_key tag b =
    if is_white_space b then Goes (stage.BeforeKey tag)
    else if b == 47 then Goes (stage.SelfClosing tag)
    else if b == 62 then tag_end tag
    else Goes (stage.Key tag)

abbrev pub after_key : Tag → ℕ → Turn
after_key tag b =
    if is_white_space b then Goes (stage.AfterKey tag)
    else if b == 47 then Goes (stage.SelfClosing tag)
    else if b == 61 then Goes (stage.BeforeValue tag)
    else if b == 62 then tag_end tag
    else Goes (stage.Key tag)

-- a value that ends with this byte
abbrev pub quoted_value : Quote → ℕ → Tag → ℕ → Turn
quoted_value q end tag b =
    if b == end then Goes (stage.AfterValue tag)
    else if b == 38 then Goes (stage.Reference (place.Value q tag))
    else Goes (stage.Value q tag)

abbrev pub bare_value : Tag → ℕ → Turn
bare_value tag b =
    if is_white_space b then Goes (stage.BeforeKey tag)
    else if b == 38 then Goes (stage.Reference (place.Value quote.Absent tag))
    else if b == 62 then tag_end tag
    else Goes (stage.Value quote.Absent tag)

abbrev pub value : Quote → Tag → ℕ → Turn
value quote.Double tag b = quoted_value quote.Double 34 tag b
value quote.Single tag b = quoted_value quote.Single 39 tag b
value quote.Absent tag b = bare_value tag b

abbrev pub key : Tag → ℕ → Turn
key tag b =
    if ends_name b then after_key tag b
    else if b == 61 then Goes (stage.BeforeValue tag)
    else Goes (stage.Key tag)

abbrev pub before_value : Tag → ℕ → Turn
before_value tag b =
    if is_white_space b then Goes (stage.BeforeValue tag)
    else if b == 34 then Goes (stage.Value quote.Double tag)
    else if b == 39 then Goes (stage.Value quote.Single tag)
    else if b == 62 then tag_end tag
    else value quote.Absent tag b

abbrev pub after_value : Tag → ℕ → Turn
after_value tag b =
    if is_white_space b then Goes (stage.BeforeKey tag)
    else if b == 47 then Goes (stage.SelfClosing tag)
    else if b == 62 then tag_end tag
    else before_key tag b

abbrev pub self_closing : Tag → ℕ → Turn
self_closing tag b = if b == 62 then tag_end tag else before_key tag b

-- references

-- where a reference stood, before a byte that isn't of it
abbrev pub leave : Place → ℕ → Turn
leave (place.Text m) b = Ends kind.Text m
leave (place.Value q tag) b = value q tag b

-- and after its last byte
abbrev pub resume : Place → Stage
resume (place.Text m) = stage.Whole kind.Text m
resume (place.Value q tag) = stage.Value q tag

abbrev pub named_reference : Place → ℕ → Turn
named_reference p b =
    if is_ascii_alphanumeric b then Goes (stage.NamedReference p)
    else if b == 59 then Goes (resume p)
    else leave p b

abbrev pub reference : Place → ℕ → Turn
reference p b =
    if is_ascii_alphanumeric b then Goes (stage.NamedReference p)
    else if b == 35 then Goes (stage.NumericReference p)
    else leave p b

abbrev pub number_end : Place → ℕ → Turn
number_end p b = if b == 59 then Goes (resume p) else leave p b

abbrev pub decimal : Place → ℕ → Turn
decimal p b = if is_ascii_digit b then Goes (stage.Decimal p) else number_end p b

abbrev pub hexadecimal : Place → ℕ → Turn
hexadecimal p b = if is_ascii_hexdigit b then Goes (stage.Hexadecimal p) else number_end p b

abbrev pub decimal_start : Place → ℕ → Turn
decimal_start p b = if is_ascii_digit b then Goes (stage.Decimal p) else leave p b

abbrev pub hexadecimal_start : Place → ℕ → Turn
hexadecimal_start p b = if is_ascii_hexdigit b then Goes (stage.Hexadecimal p) else leave p b

abbrev pub numeric_reference : Place → ℕ → Turn
numeric_reference p b =
    if to_ascii_lowercase b == 120 then Goes (stage.HexadecimalStart p) else decimal_start p b

-- comments

abbrev pub comment_token : Turn
comment_token = Goes (stage.Whole kind.Comment mode.Data)

abbrev pub bogus_comment : ℕ → Turn
bogus_comment b = if b == 62 then comment_token else Goes stage.BogusComment

-- what was read after `<!` with this byte; a line feed is of no such word
abbrev pub resolve_declaration : List ℕ → ℕ → Turn
resolve_declaration read b =
    if bytes_eq read (codes "--") then Goes stage.CommentStart
    else if bytes_eq (map to_ascii_lowercase read) (codes "doctype") then Goes stage.Doctype
    else if begins (codes "--") read || begins (codes "doctype") read then Goes stage.Declaration
    else bogus_comment b

-- a word begins with the `!`
abbrev pub declaration : List ℕ → ℕ → Turn
declaration word b =
    if b == 10 then bogus_comment b else resolve_declaration (drop 1 (word ++ b ∷ [])) b

abbrev pub comment : ℕ → Turn
comment b =
    if b == 60 then Goes stage.CommentLessThan
    else if b == 45 then Goes stage.CommentEndDash
    else Goes stage.Comment

abbrev pub comment_start : ℕ → Turn
comment_start b =
    if b == 45 then Goes stage.CommentStartDash else if b == 62 then comment_token else comment b

abbrev pub comment_start_dash : ℕ → Turn
comment_start_dash b =
    if b == 45 then Goes stage.CommentEnd else if b == 62 then comment_token else comment b

abbrev pub comment_less_than : ℕ → Turn
comment_less_than b =
    if b == 33 then Goes stage.CommentBang
    else if b == 60 then Goes stage.CommentLessThan
    else comment b

abbrev pub comment_bang : ℕ → Turn
comment_bang b = if b == 45 then Goes stage.CommentBangDash else comment b

abbrev pub comment_end_dash : ℕ → Turn
comment_end_dash b = if b == 45 then Goes stage.CommentEnd else comment b

abbrev pub comment_end : ℕ → Turn
comment_end b =
    if b == 62 then comment_token
    else if b == 33 then Goes stage.CommentEndBang
    else if b == 45 then Goes stage.CommentEnd
    else comment b

abbrev pub comment_bang_dash : ℕ → Turn
comment_bang_dash b = if b == 45 then Goes stage.CommentBangDashDash else comment_end_dash b

abbrev pub comment_end_bang : ℕ → Turn
comment_end_bang b =
    if b == 45 then Goes stage.CommentEndDash else if b == 62 then comment_token else comment b

abbrev pub doctype : ℕ → Turn
doctype b = if b == 62 then Goes (stage.Whole kind.Doctype mode.Data) else Goes stage.Doctype

-- the beginnings of markup

abbrev pub tag_open : ℕ → Turn
tag_open b =
    if b == 33 then Goes stage.Declaration
    else if b == 47 then Goes stage.EndTagOpen
    else if is_ascii_alphabetic b then Goes (stage.TagName false)
    else if b == 63 then Goes stage.BogusComment
    else Ends kind.Text mode.Data

abbrev pub end_tag_open : ℕ → Turn
end_tag_open b =
    if is_ascii_alphabetic b then Goes (stage.TagName true)
    else if b == 62 then Goes (stage.Whole kind.Nothing mode.Data)
    else Goes stage.BogusComment

-- texts with an end tag of their own

abbrev pub is_own : Mode → List ℕ → Bool
is_own m word = bytes_eq (map to_ascii_lowercase word) (own_name m)

abbrev pub after_less_than : Mode → ℕ → Turn
after_less_than mode.Script b =
    if b == 33 then Goes stage.EscapeStart else Ends kind.Text mode.Script
after_less_than mode.ScriptEscaped b =
    if is_ascii_alphabetic b then Goes stage.DoubleEscapeStart
    else Ends kind.Text mode.ScriptEscaped
after_less_than m b = Ends kind.Text m

abbrev pub raw_less_than : Mode → ℕ → Turn
raw_less_than m b = if b == 47 then Goes (stage.RawEndTagOpen m) else after_less_than m b

abbrev pub raw_end_tag_open : Mode → ℕ → Turn
raw_end_tag_open m b =
    if is_ascii_alphabetic b then Goes (stage.RawEndTagName m) else Ends kind.Text m

abbrev pub raw_end_tag_name : Mode → List ℕ → ℕ → Turn
raw_end_tag_name m word b =
    if is_white_space b && is_own m word then Goes (stage.BeforeKey end_tag)
    else if (b == 47) && is_own m word then Goes (stage.SelfClosing end_tag)
    else if (b == 62) && is_own m word then tag_end end_tag
    else if is_ascii_alphabetic b then Goes (stage.RawEndTagName m)
    else Ends kind.Text m

abbrev pub escape_start : ℕ → Turn
escape_start b = if b == 45 then Goes stage.EscapeStartDash else Ends kind.Text mode.Script

abbrev pub escape_start_dash : ℕ → Turn
escape_start_dash b =
    if b == 45 then Goes (stage.Whole kind.Text mode.ScriptEscapedDashDash)
    else Ends kind.Text mode.Script

abbrev pub is_script : List ℕ → Bool
is_script word = bytes_eq (map to_ascii_lowercase word) (codes "script")

abbrev pub double_escape_start : List ℕ → ℕ → Turn
double_escape_start word b =
    if ends_name b then
    (if is_script word then Goes stage.DoubleEscaped
    else Goes (stage.Whole kind.Text mode.ScriptEscaped))
    else if is_ascii_alphabetic b then Goes stage.DoubleEscapeStart
    else Ends kind.Text mode.ScriptEscaped

abbrev pub double_escaped : ℕ → Turn
double_escaped b =
    if b == 45 then Goes stage.DoubleEscapedDash
    else if b == 60 then Goes stage.DoubleEscapedLessThan
    else Goes stage.DoubleEscaped

abbrev pub double_escaped_dash : ℕ → Turn
double_escaped_dash b =
    if b == 45 then Goes stage.DoubleEscapedDashDash
    else if b == 60 then Goes stage.DoubleEscapedLessThan
    else Goes stage.DoubleEscaped

abbrev pub double_escaped_dash_dash : ℕ → Turn
double_escaped_dash_dash b =
    if b == 45 then Goes stage.DoubleEscapedDashDash
    else if b == 60 then Goes stage.DoubleEscapedLessThan
    else if b == 62 then Goes (stage.Whole kind.Text mode.Script)
    else Goes stage.DoubleEscaped

abbrev pub double_escaped_less_than : ℕ → Turn
double_escaped_less_than b = if b == 47 then Goes stage.DoubleEscapeEnd else double_escaped b

abbrev pub double_escape_end : List ℕ → ℕ → Turn
double_escape_end word b =
    if ends_name b then
    (if is_script word then Goes (stage.Whole kind.Text mode.ScriptEscaped)
    else Goes stage.DoubleEscaped)
    else if is_ascii_alphabetic b then Goes stage.DoubleEscapeEnd
    else double_escaped b

-- the first byte of a piece

abbrev pub whole_text : Mode → Stage
whole_text m = stage.Whole kind.Text m

abbrev pub in_data : ℕ → Stage
in_data b =
    if b == 38 then stage.Reference (place.Text mode.Data)
    else if b == 60 then stage.TagOpen
    else whole_text mode.Data

abbrev pub in_rcdata : Mode → ℕ → Stage
in_rcdata m b =
    if b == 38 then stage.Reference (place.Text m)
    else if b == 60 then stage.RawLessThan m
    else whole_text m

abbrev pub in_rawtext : Mode → ℕ → Stage
in_rawtext m b = if b == 60 then stage.RawLessThan m else whole_text m

-- with what a dash leads to
abbrev pub in_escaped : Mode → ℕ → Stage
in_escaped dash b =
    if b == 45 then whole_text dash
    else if b == 60 then stage.RawLessThan mode.ScriptEscaped
    else whole_text mode.ScriptEscaped

abbrev pub after_dashes : ℕ → Stage
after_dashes b =
    if b == 45 then whole_text mode.ScriptEscapedDashDash
    else if b == 60 then stage.RawLessThan mode.ScriptEscaped
    else if b == 62 then whole_text mode.Script
    else whole_text mode.ScriptEscaped

abbrev pub first : Mode → ℕ → Stage
first mode.Data b = in_data b
first mode.Title b = in_rcdata mode.Title b
first mode.Textarea b = in_rcdata mode.Textarea b
first mode.ContextText b = in_rcdata mode.ContextText b
first mode.ScriptEscaped b = in_escaped mode.ScriptEscapedDash b
first mode.ScriptEscapedDash b = in_escaped mode.ScriptEscapedDashDash b
first mode.ScriptEscapedDashDash b = after_dashes b
first mode.Plaintext b = whole_text mode.Plaintext
first m b = in_rawtext m b

-- any stage

-- in a script that is escaped, a comment or a doctype
abbrev pub late_turn : Stage → ℕ → Turn
late_turn stage.EscapeStart b = escape_start b
late_turn stage.EscapeStartDash b = escape_start_dash b
late_turn stage.DoubleEscaped b = double_escaped b
late_turn stage.DoubleEscapedDash b = double_escaped_dash b
late_turn stage.DoubleEscapedDashDash b = double_escaped_dash_dash b
late_turn stage.DoubleEscapedLessThan b = double_escaped_less_than b
late_turn stage.BogusComment b = bogus_comment b
late_turn stage.CommentStart b = comment_start b
late_turn stage.CommentStartDash b = comment_start_dash b
late_turn stage.Comment b = comment b
late_turn stage.CommentLessThan b = comment_less_than b
late_turn stage.CommentBang b = comment_bang b
late_turn stage.CommentBangDash b = comment_bang_dash b
late_turn stage.CommentBangDashDash b = comment_end b
late_turn stage.CommentEndDash b = comment_end_dash b
late_turn stage.CommentEnd b = comment_end b
late_turn stage.CommentEndBang b = comment_end_bang b
late_turn stage.Doctype b = doctype b
late_turn c b = Goes c

-- or in a tag after its name
abbrev pub tag_turn : Stage → ℕ → Turn
tag_turn (stage.BeforeKey tag) b = before_key tag b
tag_turn (stage.Key tag) b = key tag b
tag_turn (stage.AfterKey tag) b = after_key tag b
tag_turn (stage.BeforeValue tag) b = before_value tag b
tag_turn (stage.Value q tag) b = value q tag b
tag_turn (stage.AfterValue tag) b = after_value tag b
tag_turn (stage.SelfClosing tag) b = self_closing tag b
tag_turn c b = late_turn c b

-- or where no word is read
abbrev pub plain_turn : Stage → ℕ → Turn
plain_turn (stage.Whole k m) b = Ends k m
plain_turn (stage.Reference p) b = reference p b
plain_turn (stage.NamedReference p) b = named_reference p b
plain_turn (stage.NumericReference p) b = numeric_reference p b
plain_turn (stage.HexadecimalStart p) b = hexadecimal_start p b
plain_turn (stage.DecimalStart p) b = decimal_start p b
plain_turn (stage.Hexadecimal p) b = hexadecimal p b
plain_turn (stage.Decimal p) b = decimal p b
plain_turn stage.TagOpen b = tag_open b
plain_turn stage.EndTagOpen b = end_tag_open b
plain_turn (stage.RawLessThan m) b = raw_less_than m b
plain_turn (stage.RawEndTagOpen m) b = raw_end_tag_open m b
plain_turn c b = tag_turn c b

-- with the bytes of the word
abbrev pub turn : Stage → List ℕ → ℕ → Turn
turn (stage.TagName is_end) word b = tag_name is_end word b
turn (stage.RawEndTagName m) word b = raw_end_tag_name m word b
turn stage.DoubleEscapeStart word b = double_escape_start word b
turn stage.DoubleEscapeEnd word b = double_escape_end (drop 1 word) b
turn stage.Declaration word b = declaration word b
turn c word b = plain_turn c b
