-- The text that bytes stand for in an encoding, by the encoding standard's decoders in the error
-- mode "replacement", and where the first error is, for "fatal".
use Rattle.std.specs.Prelude.{ℕ, ◌+◌, ◌-◌, ◌==◌, List, [], ◌∷◌, Option, Some, None, encode_utf8, encode_utf8_all, flat_map, nat_lt, if◌then◌else◌}
use Rattle.tl_encoding.specs.Iso2022Jp.{iso_2022_jp, iso_2022_jp_wrong}
use Rattle.tl_encoding.specs.Iso2022Jp as iso
use Rattle.tl_encoding.specs.MultiByte.{multi_byte, multi_byte_wrong}
use Rattle.tl_encoding.specs.SingleByte.{index, of_index}
use Rattle.tl_encoding.specs.Utf16.{start, utf_16, utf_16_wrong}
use Rattle.tl_encoding.specs.Utf8.{utf_8}
use Rattle.tl_encoding.specs.declared.encoding.Encoding.{Encoding}
use Rattle.tl_encoding.specs.declared.encoding.Encoding.TheVariants.{Utf8, Utf16, SingleByte, MultiByte, Iso2022Jp, UserDefined, Replacement}
use Rattle.tl_encoding.specs.declared.multi_byte.Held.TheVariants.{Nothing}

-- x-user-defined: a byte from 0x80 on stands for one of 128 characters of private use
abbrev pub user_defined : ℕ → ℕ
user_defined byte = if nat_lt byte 0x80 then byte else 0xF780 + (byte - 0x80)

-- replacement: one error, whatever the bytes are
abbrev pub replaced : List ℕ → List ℕ
replaced [] = []
replaced (b ∷ s) = encode_utf8 0xFFFD

-- the text, in UTF-8
abbrev pub decoded : Encoding → List ℕ → List ℕ
decoded Utf8 bytes = encode_utf8_all (utf_8 bytes)
decoded (Utf16 order) bytes = utf_16 order start bytes
decoded (SingleByte name) bytes = flat_map (λ b. encode_utf8 (of_index (index name) b)) bytes
decoded (MultiByte name) bytes = multi_byte name Nothing bytes
decoded Iso2022Jp bytes = iso_2022_jp iso.start bytes
decoded UserDefined bytes = flat_map (λ b. encode_utf8 (user_defined b)) bytes
decoded Replacement bytes = replaced bytes

-- where the first byte stands that an index has no character for, in bytes that stand at a place
abbrev pub index_wrong : List ℕ → ℕ → List ℕ → Option ℕ
index_wrong table at [] = None
index_wrong table at (b ∷ s) =
    if of_index table b == 0xFFFD then Some at else index_wrong table (at + 1) s

abbrev pub first_of : List ℕ → Option ℕ
first_of [] = None
first_of (b ∷ s) = Some 0

-- where the first error begins in another encoding than UTF-8
abbrev pub wrong_in : Encoding → List ℕ → Option ℕ
wrong_in Utf8 bytes = None
wrong_in (Utf16 order) bytes = utf_16_wrong order start 0 bytes
wrong_in (SingleByte name) bytes = index_wrong (index name) 0 bytes
wrong_in (MultiByte name) bytes = multi_byte_wrong name Nothing 0 bytes
wrong_in Iso2022Jp bytes = iso_2022_jp_wrong iso.start 0 bytes
wrong_in UserDefined bytes = None
wrong_in Replacement bytes = first_of bytes
