-- What attributes are in the words of the definitions.
use Rattle.std.specs.Prelude.{ℕ, List, Option, option_map}
use Rattle.tl_spec.specs.Tree.Inline.{InlineMap, pair_image, map_image}
use Rattle.tl_spec.specs.Lex.Attribute.{Pair}
use Rattle.tl_spec.specs.Lex.AttributeList.{Attributes, PlainAttributes, attributes_image}
use Rattle.tl_spec.specs.Tree.Document.{Entries}
use Rattle.tl_spec.specs.Walk.{plain_attributes}
use Rattle.tl_bytes.specs.Held.{Kept}

-- the bytes, however they are held
abbrev pub bytes_view : Kept → List ℕ
bytes_view b = b.list

abbrev pub value_view : Option Kept → Option (List ℕ)
value_view v = option_map bytes_view v

abbrev pub pair_view : Kept × Option Kept → Pair
pair_view p = pair_image bytes_view value_view p

abbrev pub entries_view : InlineMap Kept (Option Kept) → Entries
entries_view m = map_image bytes_view value_view m

abbrev pub attributes_view : Attributes Kept → Attributes (List ℕ)
attributes_view a = attributes_image bytes_view entries_view a

-- the pairs alone
abbrev pub plain : Attributes Kept → PlainAttributes
plain a = plain_attributes (attributes_view a)
