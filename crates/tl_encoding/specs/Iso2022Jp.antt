-- The decoder of ISO-2022-JP (encoding standard, 12.2), byte by byte. U+FFFD stands for an error.
use Rattle.std.specs.Prelude.{ℕ, Bool, ◌+◌, ◌-◌, ◌*◌, ◌++◌, ◌==◌, ◌||◌, ◌&&◌, List, [], ◌∷◌, Option, Some, None, encode_utf8_all, false, true, is_none, nat_lt, not, if◌then◌else◌}
use Rattle.std.specs.Int.{is_in_range}
use Rattle.tl_indexes.specs.Indexes.{code_point}
use Rattle.tl_indexes.specs.declared.index.Index.TheVariants.{Jis0208}
use Rattle.tl_encoding.specs.MultiByte.{alone_or, point_or_error}
use Rattle.tl_encoding.specs.Pairs.{katakana}
use Rattle.tl_encoding.specs.declared.iso_2022_jp.Output.{Output}
use Rattle.tl_encoding.specs.declared.iso_2022_jp.Output.TheVariants.{Ascii, Roman, Katakana, LeadByte}
use Rattle.tl_encoding.specs.declared.iso_2022_jp.Part.{Part}
use Rattle.tl_encoding.specs.declared.iso_2022_jp.Part.TheVariants.{Nothing, Trail, EscapeStart, Escape}
use Rattle.tl_encoding.specs.declared.iso_2022_jp.State.{State}

-- what a byte stands for in each output state
abbrev pub ascii : ℕ → Option ℕ
ascii byte = if nat_lt byte 0x80 && not (is_in_range 0x0E 0x0F byte) then Some byte else None

abbrev pub roman : ℕ → Option ℕ
roman byte =
    if byte == 0x5C then Some 0xA5 else if byte == 0x7E then Some 0x203E else ascii byte

abbrev pub half_width : ℕ → Option ℕ
half_width byte = if is_in_range 0x21 0x5F byte then Some (katakana (byte - 0x21)) else None

abbrev pub single : Output → ℕ → Option ℕ
single Ascii byte = ascii byte
single Roman byte = roman byte
single Katakana byte = half_width byte
single LeadByte byte = None

-- whether it begins two that stand for a character
abbrev pub leads : Output → ℕ → Bool
leads Ascii byte = false
leads Roman byte = false
leads Katakana byte = false
leads LeadByte byte = is_in_range 0x21 0x7E byte

-- where the decoder stands: in its output state, with nothing held; behind a lead byte ("trail
-- byte"), behind 0x1B ("escape start"), or behind that and one of the bytes `$` and `(` ("escape").
-- The output flag is true right behind an escape sequence
abbrev pub start : State
start = record { output = Ascii; part = Nothing; flag = false }

-- what a byte gives in an output state
abbrev pub given_single : Output → ℕ → List ℕ
given_single output byte =
    if byte == 0x1B then [] else alone_or (single output byte) (leads output byte)

abbrev pub part_single : Output → ℕ → Part
part_single output byte =
    if byte == 0x1B then EscapeStart else if leads output byte then Trail byte else Nothing

-- the flag falls with each byte that begins no escape sequence
abbrev pub after_single : Output → Bool → ℕ → State
after_single output flag byte =
    record {
      output = output;
      part = part_single output byte;
      flag = if byte == 0x1B then flag else false;
    }

-- what a byte gives behind a lead byte; 0x1B begins an escape sequence behind the error
abbrev pub trail_pair : ℕ → ℕ → Option ℕ
trail_pair lead byte =
    if is_in_range 0x21 0x7E byte then code_point Jis0208 ((lead - 0x21) * 94 + (byte - 0x21))
    else None

abbrev pub given_trail : ℕ → ℕ → List ℕ
given_trail lead byte = point_or_error (trail_pair lead byte)

abbrev pub after_trail : Output → Bool → ℕ → State
after_trail output flag byte =
    record {
      output = output;
      part = if byte == 0x1B then EscapeStart else Nothing;
      flag = flag;
    }

-- whether an escape sequence goes on with a byte
abbrev pub goes_on : ℕ → Bool
goes_on byte = byte == 0x24 || byte == 0x28

-- the output state that it is for
abbrev pub escaped : ℕ → ℕ → Option Output
escaped lead byte =
    if lead == 0x28 && byte == 0x42 then Some Ascii
    else if lead == 0x28 && byte == 0x4A then Some Roman
    else if lead == 0x28 && byte == 0x49 then Some Katakana
    else if lead == 0x24 && (byte == 0x40 || byte == 0x42) then Some LeadByte
    else None

-- what two bytes give that are restored
abbrev pub given_restored : Output → ℕ → ℕ → List ℕ
given_restored output lead byte =
    given_single output lead
    ++ (if leads output lead then given_trail lead byte else given_single output byte)

abbrev pub after_restored : Output → ℕ → ℕ → State
after_restored output lead byte =
    if leads output lead then after_trail output false byte else after_single output false byte

-- what the last byte of an escape sequence gives: an error behind another one, or if there is none
-- such, where both bytes are restored
abbrev pub given_escape : Option Output → State → ℕ → ℕ → List ℕ
given_escape None state lead byte = 0xFFFD ∷ given_restored state.output lead byte
given_escape (Some output) state lead byte = if state.flag then 0xFFFD ∷ [] else []

abbrev pub after_escape : Option Output → State → ℕ → ℕ → State
after_escape None state lead byte = after_restored state.output lead byte
after_escape (Some output) state lead byte =
    record { output = output; part = Nothing; flag = true }

-- what a byte gives
abbrev pub given_by : Part → State → ℕ → List ℕ
given_by Nothing state byte = given_single state.output byte
given_by (Trail lead) state byte = given_trail lead byte
given_by EscapeStart state byte =
    if goes_on byte then [] else 0xFFFD ∷ given_single state.output byte
given_by (Escape lead) state byte = given_escape (escaped lead byte) state lead byte

abbrev pub given : State → ℕ → List ℕ
given state byte = given_by state.part state byte

-- where the decoder stands after it
abbrev pub after_start : State → ℕ → State
after_start state byte =
    if goes_on byte then record { output = state.output; part = Escape byte; flag = state.flag }
    else after_single state.output false byte

abbrev pub after_by : Part → State → ℕ → State
after_by Nothing state byte = after_single state.output state.flag byte
after_by (Trail lead) state byte = after_trail state.output state.flag byte
after_by EscapeStart state byte = after_start state byte
after_by (Escape lead) state byte = after_escape (escaped lead byte) state lead byte

abbrev pub after : State → ℕ → State
after state byte = after_by state.part state byte

-- what the end of bytes gives: within an escape sequence its second byte is restored
abbrev pub given_end : Output → Part → List ℕ
given_end output Nothing = []
given_end output (Trail lead) = 0xFFFD ∷ []
given_end output EscapeStart = 0xFFFD ∷ []
given_end output (Escape lead) =
    0xFFFD ∷ (given_single output lead ++ (if leads output lead then 0xFFFD ∷ [] else []))

-- the text of bytes, in UTF-8
abbrev pub iso_2022_jp : State → List ℕ → List ℕ
iso_2022_jp state [] = encode_utf8_all (given_end state.output state.part)
iso_2022_jp state (b ∷ s) = encode_utf8_all (given state b) ++ iso_2022_jp (after state b) s

-- whether a byte shows an error
abbrev pub single_is_wrong : Output → ℕ → Bool
single_is_wrong output byte =
    not (byte == 0x1B) && is_none (single output byte) && not (leads output byte)

abbrev pub escape_is_wrong : Option Output → Bool → Bool
escape_is_wrong None flag = true
escape_is_wrong (Some output) flag = flag

abbrev pub is_wrong_by : Part → State → ℕ → Bool
is_wrong_by Nothing state byte = single_is_wrong state.output byte
is_wrong_by (Trail lead) state byte = is_none (trail_pair lead byte)
is_wrong_by EscapeStart state byte = not (goes_on byte)
is_wrong_by (Escape lead) state byte = escape_is_wrong (escaped lead byte) state.flag

abbrev pub shows_wrong : State → ℕ → Bool
shows_wrong state byte = is_wrong_by state.part state byte

-- how many bytes are held
abbrev pub count : Part → ℕ
count Nothing = 0
count (Trail lead) = 1
count EscapeStart = 1
count (Escape lead) = 2

-- where the first error begins in bytes that stand at a place
abbrev pub end_wrong : Part → ℕ → Option ℕ
end_wrong part at = if count part == 0 then None else Some (at - count part)

abbrev pub iso_2022_jp_wrong : State → ℕ → List ℕ → Option ℕ
iso_2022_jp_wrong state at [] = end_wrong state.part at
iso_2022_jp_wrong state at (b ∷ s) =
    if shows_wrong state b then Some (at - count state.part)
    else iso_2022_jp_wrong (after state b) (at + 1) s
