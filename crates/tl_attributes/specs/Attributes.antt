-- What a contract sees of the attributes of a tag, beside the words of `tl_spec`.
use Rattle.std.specs.Prelude.{Bool, false, cond, [], Option, Some, None, refl, Result, Ok, Err}
use Rattle.std.specs.Coded.{Coded, code_by, coded×, coded_option}
use Rattle.tl_spec.specs.Tree.Inline.{InlineMap}
use Rattle.tl_spec.specs.Lex.AttributeList.{Attributes}
use Rattle.tl_inline.specs.InlineMap.{inline_map_code}

-- attributes are stored as their fields
abbrev pub attributes_code : {B : Type 0} → Coded B → Coded (Attributes B)
attributes_code {B} code =
    code_by (InlineMap B (Option B) × (Option B × Option B))
    (coded× (inline_map_code code (coded_option code))
    (coded× (coded_option code) (coded_option code)))
    (λ a. (a.others, (a.id, a.class))) (λ p. record { others = p.0; id = p.1.0; class = p.1.1 })
    (λ _. refl)

-- no attributes, and none on the heap
abbrev pub no_attributes : {B : Type 0} → Attributes B
no_attributes = record {
  others = record { entries = []; on_heap = false };
  id = None;
  class = None;
}

-- a value with its key, and, where there is none, whether there is the key
abbrev pub nest : {V : Type 0} → Result V Bool → Option (Option V)
nest (Ok v) = Some (Some v)
nest (Err is_there) = cond is_there (Some None) None
