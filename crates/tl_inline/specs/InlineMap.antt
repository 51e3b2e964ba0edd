-- What a contract sees of an `InlineHashMap`.
use Rattle.std.specs.Prelude.{Bool, List, refl}
use Rattle.tl_spec.specs.Tree.Inline.{InlineMap}
use Rattle.std.specs.Coded.{Coded, code_by, coded×, coded_bool, coded_list}

-- a map is stored as the pair of its fields
abbrev pub inline_map_code : {K V : Type 0} → Coded K → Coded V → Coded (InlineMap K V)
inline_map_code {K} {V} key value =
    code_by (List (K × V) × Bool) (coded× (coded_list (coded× key value)) coded_bool)
    (λ m. (m.entries, m.on_heap))
    (λ p. record { entries = p.0; on_heap = p.1 }) (λ _. refl)
