use Rattle.std.proofs.Common.{rules, Err, ◌≡◌, List, length, sym, subst, ◌∙◌, ap}
use Rattle.std.specs.List.{All}
use Rattle.tl_patch_edit.specs.Asks.{IsEscaped, IsTagged, IsWanted, asks_view, placed_of}
use Rattle.tl_patch_edit.specs.Inner.Causes.{IsPageError, IsReadError, IsSpliceError, IsWithin}
use Rattle.tl_patch_edit.specs.declared.ask.PlacedAsk.{PlacedAsk}
use Rattle.tl_patch_edit.proofs.Refusals.{err_is, page_refused, read_refused}
use Rattle.tl_patch_edit.specs.Found.{IsReadAs, IsSplicedPageOf}
use Rattle.tl_patch_edit.specs.Inner.Parts.{parts_view}
use Rattle.tl_patch_edit.specs.declared.part.Part.{Part}
use Rattle.tl_patch_edit.specs.declared.tag.ReadyAsk.{ReadyAsk}
use Rattle.tl_patch_edit.proofs.Edited.{spliced}
use Rattle.tl_patch_edit.proofs.edit.spliced_page.Goals as goal

pub wanted_parts-requires-clause-escaped : goal.wanted_parts-requires-clause-escaped
wanted_parts-requires-clause-escaped c =
    subst (λ (xs : List ReadyAsk). All IsEscaped xs) (sym c.as_slice.ensures.value) c.in_ok-ready.ensures.escaped

pub wanted_parts-requires-clause-tags : goal.wanted_parts-requires-clause-tags
wanted_parts-requires-clause-tags c =
    subst (λ (xs : List ReadyAsk). All (IsTagged (parts_view c.as_slice-old.result.now)) xs) (sym c.as_slice.ensures.value) c.in_ok-ready.ensures.tags

pub wanted_parts-requires-clause-within : goal.wanted_parts-requires-clause-within
wanted_parts-requires-clause-within c =
    subst (λ (xs : List ReadyAsk). All (IsWithin (length c.as_slice-old.result.now)) xs) (sym c.as_slice.ensures.value) c.in_ok-ready.ensures.within

pub returns-clause-text : goal.returns-clause-text
returns-clause-text c =
    let parts : List Part = c.as_slice-old.result.now in
    let same : placed_of c.as_slice.result.now ≡ c.args.asks.now = ap placed_of c.as_slice.ensures.value ∙ c.in_ok-ready.ensures.asks in
    subst (λ (xs : List Part). IsSplicedPageOf (asks_view c.args.asks.now) (parts_view xs) c.args.page.now c.in_ok-text.text.items) c.as_slice-old.ensures.value (spliced (asks_view c.args.asks.now) (parts_view parts) (parts_view c.in_ok-wanted.wanted.items) c.args.page.now c.in_ok-text.text.items
    (subst (λ (xs : List PlacedAsk). IsWanted (asks_view xs) (parts_view parts) (parts_view c.in_ok-wanted.wanted.items)) same c.in_ok-wanted.ensures.wanted)
    (subst (λ (xs : List Part). IsReadAs c.args.page.now (parts_view xs) c.in_ok-text.text.items) c.as_slice-2.ensures.value c.in_ok-text.ensures.text))

pub returns-in_err-ready-clause-error : goal.returns-in_err-ready-clause-error
returns-in_err-ready-clause-error c =
    let is : c.from_residual.result ≡ Err c.in_err-ready.field-0.0 = search rules in
    err_is _ _ _ is (subst (λ (xs : List Part). IsPageError c.args.page.now c.args.place (parts_view xs) c.args.asks.now c.in_err-ready.field-0.0) c.as_slice-old.ensures.value
    (page_refused c.args.page.now c.args.place (parts_view c.as_slice-old.result.now) c.args.asks.now c.in_err-ready.field-0.0 c.in_err-ready.ensures.error))

pub returns-in_err-wanted-clause-error : goal.returns-in_err-wanted-clause-error
returns-in_err-wanted-clause-error c =
    let parts : List Part = c.as_slice-old.result.now in
    let same : placed_of c.as_slice.result.now ≡ c.args.asks.now = ap placed_of c.as_slice.ensures.value ∙ c.in_ok-ready.ensures.asks in
    let is : c.from_residual-in_err-wanted.result ≡ Err c.in_err-wanted.field-0.0 = search rules in
    err_is _ _ _ is (subst (λ (xs : List Part). IsPageError c.args.page.now c.args.place (parts_view xs) c.args.asks.now c.in_err-wanted.field-0.0) c.as_slice-old.ensures.value
    (page_refused c.args.page.now c.args.place (parts_view parts) c.args.asks.now c.in_err-wanted.field-0.0
    (subst (λ (xs : List PlacedAsk). IsSpliceError (parts_view parts) xs c.in_err-wanted.field-0.0) same c.in_err-wanted.ensures.error)))

pub returns-in_err-text-clause-error : goal.returns-in_err-text-clause-error
returns-in_err-text-clause-error c =
    let parts : List Part = c.as_slice-old.result.now in
    let same : placed_of c.as_slice.result.now ≡ c.args.asks.now = ap placed_of c.as_slice.ensures.value ∙ c.in_ok-ready.ensures.asks in
    let is : c.from_residual-in_err-text.result ≡ Err c.in_err-text.field-0.0 = search rules in
    err_is _ _ _ is (subst (λ (xs : List Part). IsPageError c.args.page.now c.args.place (parts_view xs) c.args.asks.now c.in_err-text.field-0.0) c.as_slice-old.ensures.value
    (read_refused c.args.page.now (parts_view parts) (parts_view c.in_ok-wanted.wanted.items) c.args.asks.now c.args.place c.in_err-text.field-0.0
    (subst (λ (xs : List PlacedAsk). IsWanted (asks_view xs) (parts_view parts) (parts_view c.in_ok-wanted.wanted.items)) same c.in_ok-wanted.ensures.wanted)
    (subst (λ (xs : List Part). IsReadError c.args.page.now (parts_view xs) c.args.place c.in_err-text.field-0.0) c.as_slice-2.ensures.value c.in_err-text.ensures.error)))
