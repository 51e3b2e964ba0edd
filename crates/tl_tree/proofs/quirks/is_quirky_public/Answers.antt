use Rattle.std.proofs.Common.{List, ap, false, map, not, refl, sym, true, ◌∙◌, ◌≡◌, ℕ}
use Rattle.std.specs.Char.{to_ascii_lowercase}
use Rattle.std.specs.List.{list_any}
use Rattle.std.specs.Str.{bytes_eq}
use Rattle.tl_dom_spec.specs.Quirks.{begins_with_one, transitional_beginnings}
use Rattle.tl_tree.proofs.Quirky.{by-beginning, by-id, by-system}
use Rattle.tl_tree.proofs.quirks.is_quirky_public.Goals as goal

pub returns-then-is_one_lowered : goal.returns-then-is_one_lowered
returns-then-is_one_lowered c =
    let id : List ℕ = map to_ascii_lowercase c.args.id.now in
    by-id c.args.has_system id
    (sym (c.is_one_lowered.ensures ∙ ap (list_any (bytes_eq id)) c.quirky_ids.ensures) ∙ c.if-is_one_lowered.true)

pub returns-then-begins_with_one : goal.returns-then-begins_with_one
returns-then-begins_with_one c =
    let id : List ℕ = map to_ascii_lowercase c.args.id.now in
    by-beginning c.args.has_system id
    (sym (c.is_one_lowered.ensures ∙ ap (list_any (bytes_eq id)) c.quirky_ids.ensures) ∙ c.if-is_one_lowered.false)
    (sym (c.begins_with_one.ensures ∙ ap (λ ws. begins_with_one ws id) c.quirky_beginnings.ensures) ∙ c.if-begins_with_one.true)

pub returns-then-not-has_system : goal.returns-then-not-has_system
returns-then-not-has_system c =
    let id : List ℕ = map to_ascii_lowercase c.args.id.now in
    by-system c.args.has_system id
    (sym (c.is_one_lowered.ensures ∙ ap (list_any (bytes_eq id)) c.quirky_ids.ensures) ∙ c.if-is_one_lowered.false)
    (sym (c.begins_with_one.ensures ∙ ap (λ ws. begins_with_one ws id) c.quirky_beginnings.ensures) ∙ c.if-begins_with_one.false)
    true (ap not (sym c.if-not-has_system.true)) c.begins_with_one-then-not-has_system.result
    (c.begins_with_one-then-not-has_system.ensures ∙ ap (λ ws. begins_with_one ws id) c.transitional_beginnings.ensures)

pub returns-else-not-has_system : goal.returns-else-not-has_system
returns-else-not-has_system c =
    let id : List ℕ = map to_ascii_lowercase c.args.id.now in
    let fails : not c.args.has_system ≡ false = ap not c.if-not-has_system.false in
    fails
    ∙ by-system c.args.has_system id
    (sym (c.is_one_lowered.ensures ∙ ap (list_any (bytes_eq id)) c.quirky_ids.ensures) ∙ c.if-is_one_lowered.false)
    (sym (c.begins_with_one.ensures ∙ ap (λ ws. begins_with_one ws id) c.quirky_beginnings.ensures) ∙ c.if-begins_with_one.false)
    false (sym fails) (begins_with_one transitional_beginnings id) refl
