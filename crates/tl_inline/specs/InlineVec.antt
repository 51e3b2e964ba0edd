-- What a contract sees of an `InlineVec`.
use Rattle.std.specs.Prelude.{◌≡◌, Bool, List, refl}
use Rattle.std.specs.List.{Contains}
use Rattle.tl_spec.specs.Tree.Inline.{InlineVec}
use Rattle.std.specs.Coded.{Coded, code_by, coded×, coded_bool, coded_list}

-- a vector is stored as the pair of its fields
abbrev pub inline_vec_code : {T : Type 0} → Coded T → Coded (InlineVec T)
inline_vec_code {T} code =
    code_by (List T × Bool) (coded× (coded_list code) coded_bool) (λ v. (v.items, v.on_heap))
    (λ p. record { items = p.0; on_heap = p.1 }) (λ _. refl)

-- a clone of an item of xs is that item
abbrev pub ClonesAreEqual : {T : Type 0} → (T → T → Type 0) → List T → Type 0
ClonesAreEqual {T} clones xs = (x y : T) → Contains xs x → clones x y → y ≡ x
