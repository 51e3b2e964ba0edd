-- The shared decoder of UTF-16 (encoding standard, 14.2), byte by byte.
use Rattle.std.specs.Prelude.{ℕ, Bool, ◌+◌, ◌*◌, ◌-◌, ◌++◌, ◌||◌, List, [], ◌∷◌, Option, Some, None, encode_utf8, encode_utf8_all, false, is_some, not, if◌then◌else◌}
use Rattle.std.specs.Char.Utf16.{is_high_surrogate, is_low_surrogate, surrogate_pair_char}
use Rattle.tl_encoding.specs.declared.encoding.ByteOrder.{ByteOrder}
use Rattle.tl_encoding.specs.declared.encoding.ByteOrder.TheVariants.{BigEndian, LittleEndian}
use Rattle.tl_encoding.specs.declared.utf_16.Units.{Units}

-- the code unit of two bytes
abbrev pub code_unit : ByteOrder → ℕ → ℕ → ℕ
code_unit BigEndian first second = first * 256 + second
code_unit LittleEndian first second = second * 256 + first

-- what a code unit gives that follows no leading surrogate: a leading one gives nothing yet, a
-- trailing one is an error, which is U+FFFD
abbrev pub alone : ℕ → List ℕ
alone unit =
    if is_high_surrogate unit then []
    else if is_low_surrogate unit then 0xFFFD ∷ []
    else unit ∷ []

-- what a code unit gives: after a leading surrogate a trailing one gives their code point; before
-- another the leading one is an error, and the bytes of that are restored
abbrev pub points : Option ℕ → ℕ → List ℕ
points None unit = alone unit
points (Some leading) unit =
    if is_low_surrogate unit then surrogate_pair_char leading unit ∷ [] else 0xFFFD ∷ alone unit

-- the leading surrogate that is kept after a code unit
abbrev pub kept : ℕ → Option ℕ
kept unit = if is_high_surrogate unit then Some unit else None

-- where the decoder stands: it has a lead byte, a leading surrogate, or both
abbrev pub start : Units
start = record { lead = None; leading = None }

-- what a byte gives: a lead byte nothing yet, a second one what their code unit gives
abbrev pub given_by : ByteOrder → Option ℕ → Option ℕ → ℕ → List ℕ
given_by order None leading byte = []
given_by order (Some first) leading byte = points leading (code_unit order first byte)

abbrev pub given : ByteOrder → Units → ℕ → List ℕ
given order units byte = given_by order units.lead units.leading byte

abbrev pub after_by : ByteOrder → Option ℕ → Option ℕ → ℕ → Units
after_by order None leading byte = record { lead = Some byte; leading = leading }
after_by order (Some first) leading byte =
    record { lead = None; leading = kept (code_unit order first byte) }

abbrev pub after : ByteOrder → Units → ℕ → Units
after order units byte = after_by order units.lead units.leading byte

-- the end of bytes within a code unit or a character is one error
abbrev pub is_cut : Units → Bool
is_cut units = is_some units.lead || is_some units.leading

-- the text of bytes, in UTF-8
abbrev pub utf_16 : ByteOrder → Units → List ℕ → List ℕ
utf_16 order units [] = if is_cut units then encode_utf8 0xFFFD else []
utf_16 order units (b ∷ s) =
    encode_utf8_all (given order units b) ++ utf_16 order (after order units b) s

-- whether a code unit shows an error
abbrev pub is_wrong : Option ℕ → ℕ → Bool
is_wrong None unit = is_low_surrogate unit
is_wrong (Some leading) unit = not (is_low_surrogate unit)

-- whether a byte does
abbrev pub is_wrong_by : ByteOrder → Option ℕ → Option ℕ → ℕ → Bool
is_wrong_by order None leading byte = false
is_wrong_by order (Some first) leading byte = is_wrong leading (code_unit order first byte)

abbrev pub shows_wrong : ByteOrder → Units → ℕ → Bool
shows_wrong order units byte = is_wrong_by order units.lead units.leading byte

-- how many bytes before a place the decoder holds
abbrev pub held : Option ℕ → Option ℕ → ℕ
held None None = 0
held None (Some leading) = 2
held (Some first) None = 1
held (Some first) (Some leading) = 3

-- where an error begins that is seen at a place
abbrev pub wrong_place : Units → ℕ → ℕ
wrong_place units at = at - held units.lead units.leading

-- where the first error begins in bytes that stand at a place
abbrev pub utf_16_wrong : ByteOrder → Units → ℕ → List ℕ → Option ℕ
utf_16_wrong order units at [] = if is_cut units then Some (wrong_place units at) else None
utf_16_wrong order units at (b ∷ s) =
    if shows_wrong order units b then Some (wrong_place units at)
    else utf_16_wrong order (after order units b) (at + 1) s
