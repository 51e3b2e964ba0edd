use Rattle.std.proofs.Common.{◌≡◌, ℕ, List, true, false, Option, ap, sym, ◌∙◌}
use Rattle.std.specs.Prelude.{Err, IfOk, Ok, Result, option_map}
use Rattle.tl_html_parts.specs.Parts.{name_of}
use Rattle.tl_patch_spec.specs.Patches.{Extent, RenameElement, asked, may_be_renamed}
use Rattle.tl_patch_edit.specs.Asks.{planned_view}
use Rattle.tl_patch_edit.specs.View.{extent_view}
use Rattle.tl_patch_edit.specs.declared.ask.Planned.{Planned}
use Rattle.tl_patch_edit.proofs.Plans.{rename_not}
use Rattle.tl_patch_edit.proofs.plan.renamed.Goals as goal

of_old : {E : Type 0} (e : Extent) (n : ℕ) (old new : List ℕ) (r : Result (Option Planned) E) → may_be_renamed old new ≡ true →
    IfOk r (λ o. (name : List ℕ) → may_be_renamed name new ≡ true → asked (RenameElement new) n e name ≡ option_map planned_view o) →
    IfOk r (λ o. asked (RenameElement new) n e old ≡ option_map planned_view o)
of_old e n old new (Err x) m h = h
of_old e n old new (Ok o) m h = h old m

pub returns-then-not-may_be : goal.returns-then-not-may_be
returns-then-not-may_be c =
    let may : may_be_renamed (name_of c.args.raw.now) c.args.name.now ≡ false =
    ap (λ (n : List ℕ). may_be_renamed n c.args.name.now) (sym (c.as_bytes.ensures ∙ c.in_ok-old.ensures)) ∙ sym c.may_be_renamed-may_be.ensures ∙ c.if-not-may_be.true in
    rename_not (extent_view c.args.extent) c.args.number (name_of c.args.raw.now) c.args.name.now may

pub returns : goal.returns
returns c =
    let may : may_be_renamed (name_of c.args.raw.now) c.args.name.now ≡ true =
    ap (λ (n : List ℕ). may_be_renamed n c.args.name.now) (sym (c.as_bytes.ensures ∙ c.in_ok-old.ensures)) ∙ sym c.may_be_renamed-may_be.ensures ∙ c.if-not-may_be.false in
    of_old (extent_view c.args.extent) c.args.number (name_of c.args.raw.now) c.args.name.now c.renamed_tags.result may c.renamed_tags.ensures
