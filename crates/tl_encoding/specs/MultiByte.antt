-- The decoders of gb18030, which is that of GBK as well, Big5, EUC-JP, Shift_JIS and EUC-KR
-- (encoding standard, 10 to 13), byte by byte. U+FFFD stands for an error.
use Rattle.std.specs.Prelude.{ℕ, Bool, ◌+◌, ◌-◌, ◌*◌, ◌++◌, ◌==◌, ◌||◌, ◌&&◌, List, [], ◌∷◌, Option, Some, None, encode_utf8, encode_utf8_all, false, true, is_none, nat_lt, not, if◌then◌else◌}
use Rattle.std.specs.Int.{is_in_range}
use Rattle.tl_indexes.specs.Ranges.{ranges_code_point}
use Rattle.tl_encoding.specs.Pairs.{jis0212_pair, katakana, pair}
use Rattle.tl_encoding.specs.declared.multi_byte.Held.{Held}
use Rattle.tl_encoding.specs.declared.multi_byte.Held.TheVariants.{Nothing, Lead, Jis0212, Second, Third}
use Rattle.tl_encoding.specs.declared.multi_byte.MultiByte.{MultiByte}
use Rattle.tl_encoding.specs.declared.multi_byte.MultiByte.TheVariants.{Big5, EucJp, EucKr, Gb18030, Gbk, ShiftJis}

-- what a byte stands for by itself, where no lead byte precedes it
abbrev pub alone_gb : ℕ → Option ℕ
alone_gb byte =
    if nat_lt byte 0x80 then Some byte else if byte == 0x80 then Some 0x20AC else None

abbrev pub alone_shift_jis : ℕ → Option ℕ
alone_shift_jis byte =
    if nat_lt byte 0x81 then Some byte
    else if is_in_range 0xA1 0xDF byte then Some (katakana (byte - 0xA1))
    else None

abbrev pub alone_ascii : ℕ → Option ℕ
alone_ascii byte = if nat_lt byte 0x80 then Some byte else None

abbrev pub alone : MultiByte → ℕ → Option ℕ
alone Big5 byte = alone_ascii byte
alone EucJp byte = alone_ascii byte
alone EucKr byte = alone_ascii byte
alone Gb18030 byte = alone_gb byte
alone Gbk byte = alone_gb byte
alone ShiftJis byte = alone_shift_jis byte

-- the bytes that begin what stands for a character
abbrev pub is_lead : MultiByte → ℕ → Bool
is_lead Big5 byte = is_in_range 0x81 0xFE byte
is_lead EucJp byte = is_in_range 0x8E 0x8F byte || is_in_range 0xA1 0xFE byte
is_lead EucKr byte = is_in_range 0x81 0xFE byte
is_lead Gb18030 byte = is_in_range 0x81 0xFE byte
is_lead Gbk byte = is_in_range 0x81 0xFE byte
is_lead ShiftJis byte = is_in_range 0x81 0x9F byte || is_in_range 0xE0 0xFC byte

-- the code point of four bytes of gb18030
abbrev pub four : ℕ → ℕ → ℕ → ℕ → Option ℕ
four first second third byte =
    ranges_code_point ((first - 0x81) * 12600 + (second - 0x30) * 1260 + (third - 0x81) * 10
    + (byte - 0x30))

-- what is held where a byte behind a lead byte goes on with a character
abbrev pub goes_on_gb : ℕ → ℕ → Option Held
goes_on_gb lead byte = if is_in_range 0x30 0x39 byte then Some (Second lead byte) else None

abbrev pub goes_on_euc_jp : ℕ → ℕ → Option Held
goes_on_euc_jp lead byte =
    if lead == 0x8F && is_in_range 0xA1 0xFE byte then Some (Jis0212 byte) else None

abbrev pub goes_on : MultiByte → ℕ → ℕ → Option Held
goes_on Big5 lead byte = None
goes_on EucJp lead byte = goes_on_euc_jp lead byte
goes_on EucKr lead byte = None
goes_on Gb18030 lead byte = goes_on_gb lead byte
goes_on Gbk lead byte = goes_on_gb lead byte
goes_on ShiftJis lead byte = None

-- what a byte gives that nothing precedes: what it stands for, nothing yet if it leads, or an error
abbrev pub alone_or : Option ℕ → Bool → List ℕ
alone_or None leads = if leads then [] else 0xFFFD ∷ []
alone_or (Some point) leads = point ∷ []

abbrev pub given_first : MultiByte → ℕ → List ℕ
given_first name byte = alone_or (alone name byte) (is_lead name byte)

abbrev pub held_first : MultiByte → ℕ → Held
held_first name byte = if is_lead name byte then Lead byte else Nothing

-- the code points of bytes, or an error, behind which the last of them is restored if it is ASCII
abbrev pub or_error : List ℕ → ℕ → List ℕ
or_error [] byte = if nat_lt byte 0x80 then 0xFFFD ∷ byte ∷ [] else 0xFFFD ∷ []
or_error (point ∷ points) byte = point ∷ points

-- what a byte gives behind a lead byte
abbrev pub pair_unless : Option Held → MultiByte → ℕ → ℕ → List ℕ
pair_unless None name lead byte = or_error (pair name lead byte) byte
pair_unless (Some held) name lead byte = []

abbrev pub given_second : MultiByte → ℕ → ℕ → List ℕ
given_second name lead byte = pair_unless (goes_on name lead byte) name lead byte

abbrev pub held_or : Option Held → Held
held_or None = Nothing
held_or (Some held) = held

abbrev pub held_second : MultiByte → ℕ → ℕ → Held
held_second name lead byte = held_or (goes_on name lead byte)

-- a code point, or an error
abbrev pub point_or_error : Option ℕ → List ℕ
point_or_error None = 0xFFFD ∷ []
point_or_error (Some point) = point ∷ []

-- what a byte gives behind two bytes of four, and behind three; where it doesn't go on with them,
-- all but the first are restored, of which the second is ASCII
abbrev pub given_third : MultiByte → ℕ → ℕ → List ℕ
given_third name second byte =
    if is_in_range 0x81 0xFE byte then [] else 0xFFFD ∷ second ∷ given_first name byte

abbrev pub given_fourth : MultiByte → ℕ → ℕ → ℕ → ℕ → List ℕ
given_fourth name first second third byte =
    if is_in_range 0x30 0x39 byte then point_or_error (four first second third byte)
    else 0xFFFD ∷ second ∷ given_second name third byte

-- what a byte gives
abbrev pub given : MultiByte → Held → ℕ → List ℕ
given name Nothing byte = given_first name byte
given name (Lead lead) byte = given_second name lead byte
given name (Jis0212 lead) byte = or_error (jis0212_pair lead byte) byte
given name (Second first second) byte = given_third name second byte
given name (Third first second third) byte = given_fourth name first second third byte

-- what is held after it
abbrev pub after : MultiByte → Held → ℕ → Held
after name Nothing byte = held_first name byte
after name (Lead lead) byte = held_second name lead byte
after name (Jis0212 lead) byte = Nothing
after name (Second first second) byte =
    if is_in_range 0x81 0xFE byte then Third first second byte else held_first name byte
after name (Third first second third) byte =
    if is_in_range 0x30 0x39 byte then Nothing else held_second name third byte

-- how many bytes are held
abbrev pub count : Held → ℕ
count Nothing = 0
count (Lead lead) = 1
count (Jis0212 lead) = 2
count (Second first second) = 2
count (Third first second third) = 3

-- the text of bytes, in UTF-8: their end within a character is an error
abbrev pub end_text : Held → List ℕ
end_text held = if count held == 0 then [] else encode_utf8 0xFFFD

abbrev pub multi_byte : MultiByte → Held → List ℕ → List ℕ
multi_byte name held [] = end_text held
multi_byte name held (b ∷ s) =
    encode_utf8_all (given name held b) ++ multi_byte name (after name held b) s

-- whether a byte shows an error
abbrev pub is_empty : List ℕ → Bool
is_empty [] = true
is_empty (point ∷ points) = false

abbrev pub second_is_wrong : MultiByte → ℕ → ℕ → Bool
second_is_wrong name lead byte =
    is_none (goes_on name lead byte) && is_empty (pair name lead byte)

abbrev pub shows_wrong : MultiByte → Held → ℕ → Bool
shows_wrong name Nothing byte = is_none (alone name byte) && not (is_lead name byte)
shows_wrong name (Lead lead) byte = second_is_wrong name lead byte
shows_wrong name (Jis0212 lead) byte = is_empty (jis0212_pair lead byte)
shows_wrong name (Second first second) byte = not (is_in_range 0x81 0xFE byte)
shows_wrong name (Third first second third) byte =
    if is_in_range 0x30 0x39 byte then is_none (four first second third byte) else true

-- where the first error begins in bytes that stand at a place
abbrev pub end_wrong : Held → ℕ → Option ℕ
end_wrong held at = if count held == 0 then None else Some (at - count held)

abbrev pub multi_byte_wrong : MultiByte → Held → ℕ → List ℕ → Option ℕ
multi_byte_wrong name held at [] = end_wrong held at
multi_byte_wrong name held at (b ∷ s) =
    if shows_wrong name held b then Some (at - count held)
    else multi_byte_wrong name (after name held b) (at + 1) s
