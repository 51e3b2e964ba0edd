-- The bytes that stand for a text, by the encoding standard's encoders of UTF-8, of the single-byte
-- encodings and of x-user-defined, and by UTF-16, of which it has none; of the encodings of several
-- bytes but for ISO-2022-JP only ASCII, which stands for itself.
use Rattle.std.specs.Prelude.{◌≡◌, ℕ, Bool, ◌+◌, ◌-◌, ◌/◌, ◌%◌, ◌++◌, ◌==◌, List, [], ◌∷◌, Option, Some, None, codes, encode_utf8, false, nat_lt, option_map, true, if◌then◌else◌}
use Rattle.std.specs.Fmt.{decimal}
use Rattle.std.specs.Int.{is_in_range}
use Rattle.std.specs.List.{position}
use Rattle.tl_encoding.specs.SingleByte.{index}
use Rattle.tl_encoding.specs.declared.encoder.EncodeError.{EncodeError}
use Rattle.tl_encoding.specs.declared.encoder.EncodeError.TheVariants.{NoCharacter, OutOfMemory}
use Rattle.tl_encoding.specs.declared.encoding.ByteOrder.{ByteOrder}
use Rattle.tl_encoding.specs.declared.encoding.ByteOrder.TheVariants.{BigEndian, LittleEndian}
use Rattle.tl_encoding.specs.declared.encoding.Encoding.{Encoding}
use Rattle.tl_encoding.specs.declared.encoding.Encoding.TheVariants.{Utf8, Utf16, SingleByte, MultiByte, Iso2022Jp, UserDefined, Replacement}

-- "index pointer": the byte of a character by an index, which has U+FFFD where it has none
abbrev pub of_pointer : Option ℕ → Option ℕ
of_pointer pointer = option_map (λ at. 0x80 + at) pointer

abbrev pub index_byte : List ℕ → ℕ → Option ℕ
index_byte table point =
    if nat_lt point 0x80 then Some point
    else if point == 0xFFFD then None
    else of_pointer (position (λ other. other == point) table)

abbrev pub user_byte : ℕ → Option ℕ
user_byte point =
    if nat_lt point 0x80 then Some point
    else if is_in_range 0xF780 0xF7FF point then Some (point - 0xF780 + 0x80)
    else None

abbrev pub ascii_byte : ℕ → Option ℕ
ascii_byte point = if nat_lt point 0x80 then Some point else None

-- the byte of a character in an encoding that has one byte for it
abbrev pub byte_of : Encoding → ℕ → Option ℕ
byte_of Utf8 point = None
byte_of (Utf16 order) point = None
byte_of (SingleByte name) point = index_byte (index name) point
byte_of (MultiByte name) point = ascii_byte point
byte_of Iso2022Jp point = None
byte_of UserDefined point = user_byte point
byte_of Replacement point = None

-- the bytes of a code unit, and of a character's, which are two from U+10000 on
abbrev pub unit_bytes : ByteOrder → ℕ → List ℕ
unit_bytes BigEndian unit = unit / 256 ∷ unit % 256 ∷ []
unit_bytes LittleEndian unit = unit % 256 ∷ unit / 256 ∷ []

abbrev pub units_bytes : ByteOrder → ℕ → List ℕ
units_bytes order point =
    if nat_lt point 0x10000 then unit_bytes order point
    else unit_bytes order (0xD800 + (point - 0x10000) / 0x400)
    ++ unit_bytes order (0xDC00 + (point - 0x10000) % 0x400)

abbrev pub alone : Option ℕ → Option (List ℕ)
alone byte = option_map (λ b. b ∷ []) byte

-- the bytes of a character, if the encoding has it
abbrev pub encoded_point : Encoding → ℕ → Option (List ℕ)
encoded_point Utf8 point = Some (encode_utf8 point)
encoded_point (Utf16 order) point = Some (units_bytes order point)
encoded_point (SingleByte name) point = alone (byte_of (SingleByte name) point)
encoded_point (MultiByte name) point = alone (byte_of (MultiByte name) point)
encoded_point Iso2022Jp point = None
encoded_point UserDefined point = alone (byte_of UserDefined point)
encoded_point Replacement point = None

-- bytes, and others behind them, if both are there
abbrev pub appended : Option (List ℕ) → Option (List ℕ) → Option (List ℕ)
appended None more = None
appended (Some bytes) more = option_map (λ rest. bytes ++ rest) more

-- the bytes of characters, if the encoding has all of them
abbrev pub encoded : Encoding → List ℕ → Option (List ℕ)
encoded encoding [] = Some []
encoded encoding (point ∷ points) =
    appended (encoded_point encoding point) (encoded encoding points)

-- a text with references in the place of characters that the encoding lacks (error mode "html")
abbrev pub reference : ℕ → List ℕ
reference point = codes "&#" ++ decimal point ++ codes ";"

abbrev pub written_by : Option (List ℕ) → ℕ → List ℕ
written_by None point = reference point
written_by (Some own) point = encode_utf8 point

abbrev pub written : Encoding → ℕ → List ℕ
written encoding point = written_by (encoded_point encoding point) point

-- why characters have no bytes: one that the encoding lacks is among them, or memory ran out
abbrev pub IsLacking : Encoding → List ℕ → EncodeError → Type 0
IsLacking encoding points (NoCharacter point) =
    (encoded_point encoding point ≡ None) × (encoded encoding points ≡ None)
IsLacking encoding points OutOfMemory = Unit {0}

-- the encodings of which one text has one row of bytes: all but those of several bytes, of which
-- these tell ASCII alone
abbrev pub has_encoder : Encoding → Bool
has_encoder Utf8 = true
has_encoder (Utf16 order) = true
has_encoder (SingleByte name) = true
has_encoder (MultiByte name) = false
has_encoder Iso2022Jp = false
has_encoder UserDefined = true
has_encoder Replacement = false
