use Rattle.std.proofs.Common.{List, ap, false, map, refl, sym, true, ◌∙◌, ℕ}
use Rattle.std.specs.Char.{to_ascii_lowercase}
use Rattle.std.specs.Option.{option_map}
use Rattle.std.specs.Str.{bytes_eq}
use Rattle.tl_dom_spec.specs.Quirks.{lowered, quirky_system}
use Rattle.tl_tree.proofs.Quirky.{by-ids}
use Rattle.tl_tree.specs.Inner.Store.{bytes_of}
use Rattle.tl_tree.proofs.quirks.has_quirky_ids.Goals as goal

pub returns-then-is_quirky_public : goal.returns-then-is_quirky_public
returns-then-is_quirky_public c =
    let s = c.args.store.now in
    c.if-is_quirky_public.true
    ∙ by-ids s c.args.own c.is_some.result c.is_some.ensures c.id_bytes-public_id.result.now c.id_bytes-public_id.ensures
    true (sym c.if-is_quirky_public.true ∙ c.is_quirky_public.ensures) (bytes_eq (lowered (option_map (bytes_of s) c.args.own.system_id)) quirky_system) refl

pub returns-else-is_quirky_public : goal.returns-else-is_quirky_public
returns-else-is_quirky_public c =
    let s = c.args.store.now in
    by-ids s c.args.own c.is_some.result c.is_some.ensures c.id_bytes-public_id.result.now c.id_bytes-public_id.ensures
    false (sym c.if-is_quirky_public.false ∙ c.is_quirky_public.ensures) c.is_lowered.result
    (c.is_lowered.ensures ∙ ap (λ (bytes : List ℕ). bytes_eq (map to_ascii_lowercase bytes) quirky_system) c.id_bytes-system_id.ensures)
