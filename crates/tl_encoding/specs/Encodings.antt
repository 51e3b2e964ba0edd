-- Which encoding a page is in.
use Rattle.std.specs.Prelude.{ℕ, Bool, ◌&&◌, List, [], ◌∷◌, Option, Some, None, false, not, option_map, true, if◌then◌else◌}
use Rattle.std.specs.Str.{is_utf8}
use Rattle.tl_encoding.specs.Charset.{charset_of}
use Rattle.tl_encoding.specs.Declaration.{label_declared, utf_16_declared}
use Rattle.tl_encoding.specs.Labels.{encoding_named, trimmed}
use Rattle.tl_encoding.specs.Runs.{begins}
use Rattle.tl_encoding.specs.declared.encoding.ByteOrder.{ByteOrder}
use Rattle.tl_encoding.specs.declared.encoding.ByteOrder.TheVariants.{BigEndian, LittleEndian}
use Rattle.tl_encoding.specs.declared.encoding.Encoding.{Encoding}
use Rattle.tl_encoding.specs.declared.encoding.Encoding.TheVariants.{Utf8, Utf16, SingleByte, MultiByte, Iso2022Jp, UserDefined, Replacement}
use Rattle.tl_encoding.specs.declared.single_byte.SingleByte.TheVariants.{Windows1252}

-- the encoding of a label
abbrev pub encoding_labelled : List ℕ → Option Encoding
encoding_labelled label = encoding_named (trimmed label)

-- a page that can be read as ASCII is in no UTF-16: what says so means UTF-8
abbrev pub no_utf_16 : Encoding → Encoding
no_utf_16 Utf8 = Utf8
no_utf_16 (Utf16 order) = Utf8
no_utf_16 (SingleByte name) = SingleByte name
no_utf_16 (MultiByte name) = MultiByte name
no_utf_16 Iso2022Jp = Iso2022Jp
no_utf_16 UserDefined = UserDefined
no_utf_16 Replacement = Replacement

-- in a tag `meta` x-user-defined means windows-1252
abbrev pub no_user_defined : Encoding → Encoding
no_user_defined Utf8 = Utf8
no_user_defined (Utf16 order) = Utf16 order
no_user_defined (SingleByte name) = SingleByte name
no_user_defined (MultiByte name) = MultiByte name
no_user_defined Iso2022Jp = Iso2022Jp
no_user_defined UserDefined = SingleByte Windows1252
no_user_defined Replacement = Replacement

-- the encoding that an XML declaration means
abbrev pub encoding_declared : List ℕ → Option Encoding
encoding_declared label = option_map no_utf_16 (encoding_named label)

-- the encoding that a tag `meta` means
abbrev pub encoding_meant : List ℕ → Option Encoding
encoding_meant label = option_map no_user_defined (encoding_declared label)

-- an encoding, and UTF-8 if there is none
abbrev pub or_utf_8 : Option Encoding → Encoding
or_utf_8 None = Utf8
or_utf_8 (Some encoding) = encoding

-- what a declaration says, and UTF-8 if there is none that says anything
abbrev pub declared : Option (List ℕ) → Encoding
declared None = Utf8
declared (Some label) = or_utf_8 (encoding_declared label)

-- what a tag `meta` says, and what a declaration says where none does
abbrev pub labelled : Option (List ℕ) → List ℕ → Encoding
labelled None page = declared (label_declared page)
labelled (Some label) page = or_utf_8 (encoding_meant label)

-- what a page says in itself
abbrev pub encoding_said : List ℕ → Encoding
encoding_said page = labelled (charset_of page) page

-- the encoding of a byte-order mark in front ("BOM sniff")
abbrev pub encoding_marked : List ℕ → Option Encoding
encoding_marked page =
    if begins (0xEF ∷ 0xBB ∷ 0xBF ∷ []) page then Some Utf8
    else if begins (0xFE ∷ 0xFF ∷ []) page then Some (Utf16 BigEndian)
    else if begins (0xFF ∷ 0xFE ∷ []) page then Some (Utf16 LittleEndian)
    else None

-- what stands in front: a byte-order mark counts first, then a declaration in UTF-16
abbrev pub in_utf_16 : Option ByteOrder → Option Encoding
in_utf_16 None = None
in_utf_16 (Some order) = Some (Utf16 order)

abbrev pub marked_or : Option Encoding → Option Encoding → Option Encoding
marked_or None other = other
marked_or (Some encoding) other = Some encoding

abbrev pub in_front : List ℕ → Option Encoding
in_front page = marked_or (encoding_marked page) (in_utf_16 (utf_16_declared page))

abbrev pub in_front_or : Option Encoding → Encoding → Encoding
in_front_or None other = other
in_front_or (Some encoding) other = encoding

-- the encoding of a page, as browsers tell it: what stands in front, then what it says
abbrev pub encoding_in : List ℕ → Encoding
encoding_in page = in_front_or (in_front page) (encoding_said page)

-- whether bytes of an encoding are ASCII whatever they stand for
abbrev pub is_in_ascii : Encoding → Bool
is_in_ascii Utf8 = false
is_in_ascii (Utf16 order) = false
is_in_ascii (SingleByte name) = false
is_in_ascii (MultiByte name) = false
is_in_ascii Iso2022Jp = true
is_in_ascii UserDefined = false
is_in_ascii Replacement = false

-- that bytes are UTF-8 counts before what a page says, but where they are that in any case
abbrev pub by_bytes : Encoding → List ℕ → Encoding
by_bytes said page = if not (is_in_ascii said) && is_utf8 page then Utf8 else said

-- the encoding of a page by its bytes; what stands in front counts first, since a page in UTF-16
-- whose characters are ASCII is UTF-8 too
abbrev pub encoding_by_bytes : List ℕ → Encoding
encoding_by_bytes page = in_front_or (in_front page) (by_bytes (encoding_said page) page)
