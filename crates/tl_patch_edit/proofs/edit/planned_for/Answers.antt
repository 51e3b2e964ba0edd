use Rattle.std.proofs.Common.{◌≡◌, rules, ℕ, List, Err, Option, sym, subst}
use Rattle.tl_html_spec.specs.Pieces.{pieces, runs}
use Rattle.tl_patch_spec.specs.Patches.{Put, asked, asked_of}
use Rattle.tl_patch_spec.specs.Splices.{Splice}
use Rattle.tl_patch_edit.specs.Inner.Causes.{IsPlanError}
use Rattle.tl_patch_edit.proofs.Refusals.{err_is}
use Rattle.tl_html_parts.specs.Parts.{name_of}
use Rattle.tl_patch_edit.specs.Found.{IsTagName}
use Rattle.tl_patch_edit.specs.Asks.{planned_view}
use Rattle.tl_patch_edit.specs.View.{extent_view, patch_view}
use Rattle.tl_patch_edit.proofs.Edited.{asked_is, asked_same}
use Rattle.tl_patch_edit.proofs.edit.planned_for.Goals as goal

pub returns-clause-planned : goal.returns-clause-planned
returns-clause-planned c =
    let name : List ℕ = name_of c.in_ok-raw.raw.now in
    asked_is (patch_view c.args.one.patch) c.args.page.now c.args.one.start.number c.args.one.start.token (extent_view c.args.extent) name
    (planned_view c.in_ok-planned.planned) c.requires.start c.requires.extent
    (subst (λ (b : List ℕ). IsTagName b name) c.token_bytes.ensures c.in_ok-raw.ensures) c.in_ok-planned.ensures.planned

pub returns-in_err-planned-clause-error : goal.returns-in_err-planned-clause-error
returns-in_err-planned-clause-error c =
    let name : List ℕ = name_of c.in_ok-raw.raw.now in
    let same : asked_of (runs (pieces c.args.page.now)) c.args.one.start.number (patch_view c.args.one.patch) ≡ asked (patch_view c.args.one.patch) c.args.one.start.number (extent_view c.args.extent) name =
    asked_same (patch_view c.args.one.patch) c.args.page.now c.args.one.start.number c.args.one.start.token (extent_view c.args.extent) name c.requires.start c.requires.extent
    (subst (λ (b : List ℕ). IsTagName b name) c.token_bytes.ensures c.in_ok-raw.ensures) in
    let is : c.from_residual-in_err-planned.result ≡ Err c.in_err-planned.field-0.0 = search rules in
    err_is _ _ _ is (subst (λ (o : Option (List (Splice Put))). IsPlanError c.args.one.start.token.start o c.in_err-planned.field-0.0) (sym same) c.in_err-planned.ensures.error)
