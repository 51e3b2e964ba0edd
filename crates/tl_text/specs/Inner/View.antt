-- What the code holds of a reference.
use Rattle.std.specs.Prelude.{ℕ, Bool, true, false, not, ◌==◌, nat_lt, List, encode_utf8, if◌then◌else◌}
use Rattle.std.specs.Char.{is_ascii_digit, is_ascii_hexdigit}
use Rattle.tl_html_spec.specs.References as spec
use Rattle.tl_text.specs.declared.base.Base.{Base}
use Rattle.tl_text.specs.declared.base.Base.TheVariants.{Decimal, Hexadecimal}
use Rattle.tl_text.specs.declared.names.Row.{Row}
use Rattle.tl_text.specs.declared.reference.Characters.{Characters}
use Rattle.tl_text.specs.declared.reference.Characters.TheVariants.{Listed, Numbered}
use Rattle.tl_text.specs.declared.reference.Reference.{Reference}

-- every byte but this one
abbrev pub is_not : ℕ → ℕ → Bool
is_not end b = not (b == end)

abbrev pub base_of : Base → ℕ
base_of Decimal = 10
base_of Hexadecimal = 16

abbrev pub is_digit_of : Base → ℕ → Bool
is_digit_of Decimal b = is_ascii_digit b
is_digit_of Hexadecimal b = is_ascii_hexdigit b

abbrev pub row_view : Row → spec.Row
row_view row = (row.name.now, row.characters.now)

abbrev pub characters_view : Characters → List ℕ
characters_view (Listed bytes) = bytes.now
characters_view (Numbered c) = encode_utf8 c

abbrev pub reference_view : Reference → spec.Reference
reference_view r = record { gives = characters_view r.gives; takes = r.takes }

-- a number, where what is past the last character is all the same
abbrev pub capped : ℕ → ℕ
capped code = if nat_lt 0x110000 code then 0x110000 else code

abbrev pub number_reference : ℕ → ℕ → spec.Reference
number_reference code takes = record { gives = spec.number_value code; takes = takes }
