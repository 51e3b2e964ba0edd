use Rattle.std.proofs.Common.{◌≡◌, ◌∙◌, ℕ, Some, ap, get_or, length, sym, true≢false}
use Rattle.std.proofs.lemmas.List.{nil_from_length}
use Rattle.std.proofs.lemmas.Slice.Eq.{bytes_eq-Decides}
use Rattle.std.proofs.lemmas.Bool.{eqb-true}
use Rattle.std.specs.Option.{option_copied}
use Rattle.tl_names.specs.declared.element_tables.TheConstants.{SLOTS}
use Rattle.tl_names.specs.ElementNames.{text_of}
use Rattle.tl_names.proofs.ElementNames.{empty, found, missed, none_is_not_some, numbered_name}
use Rattle.tl_names.proofs.element_name.ElementName.of.Goals as goal

pub returns-then-is_empty : goal.returns-then-is_empty
returns-then-is_empty c = empty c.args.name.now (nil_from_length c.args.name.now (eqb-true (length c.args.name.now) 0 (sym c.is_empty.ensures ∙ c.if-is_empty.true)))

pub returns-in-Some : goal.returns-in-Some
returns-in-Some c =
    found c.args.name.now c.in-Some.own.now c.number_at.result
    (c.number_at.ensures ∙ ap (λ (slot : ℕ). get_or SLOTS slot 0) c.slot_of.ensures)
    c.in-Some.ensures
    (sym c.as_bytes.ensures.value ∙ (bytes_eq-Decides c.as_bytes.result.now c.args.name.now).0 (sym c.eq.ensures ∙ c.if-eq.true))

pub returns-in_default : goal.returns-in_default
returns-in_default c =
    missed c.args.name.now c.number_at.result
    (c.number_at.ensures ∙ ap (λ (slot : ℕ). get_or SLOTS slot 0) c.slot_of.ensures)
    (λ e.
    let text : Some c.in-Some.own.now ≡ text_of (numbered_name c.number_at.result) = c.in-Some.ensures in
    let same : c.in-Some.own.now ≡ c.args.name.now = cc in
    true≢false (sym ((bytes_eq-Decides c.as_bytes.result.now c.args.name.now).1 (c.as_bytes.ensures.value ∙ same)) ∙ (sym c.eq.ensures ∙ c.if-eq.false)))

pub returns-in_default-2 : goal.returns-in_default-2
returns-in_default-2 c =
    missed c.args.name.now c.number_at.result
    (c.number_at.ensures ∙ ap (λ (slot : ℕ). get_or SLOTS slot 0) c.slot_of.ensures)
    (λ e. let text : option_copied c.text.result ≡ text_of (numbered_name c.number_at.result) = c.text.ensures in none_is_not_some c.args.name.now (sym (ap option_copied c.in_default.is) ∙ text ∙ e))
