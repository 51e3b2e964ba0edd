-- How attributes are filled: each pair is put again.
use Rattle.std.specs.Prelude.{Option, option_map}
use Rattle.tl_bytes.specs.Held.{Kept, as_owned}
use Rattle.tl_bytes.specs.Keys.{same_list}
use Rattle.tl_spec.specs.Edit.Attribute.{with_attribute}
use Rattle.tl_spec.specs.Lex.AttributeList.{Attributes}
use Rattle.tl_attributes.specs.AttributesView.{bytes_view}
use Rattle.uses.specs.Fields.{Fields, text_with}

-- a copy of a pair, with fields in its value
abbrev pub pair_with : Fields → Kept × Option Kept → Kept × Option Kept
pair_with fields p =
    (as_owned p.0.list, option_map (λ value. as_owned (text_with fields value.list)) p.1)

-- attributes with one more pair
abbrev pub insert_pair : Attributes Kept → Kept × Option Kept → Attributes Kept
insert_pair a p = with_attribute bytes_view same_list a p.0 p.1
