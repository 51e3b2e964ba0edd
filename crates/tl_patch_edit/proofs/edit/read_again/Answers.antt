use Rattle.std.proofs.Common.{refl, sym, ap, ◌∙◌}
use Rattle.tl_html_spec.specs.Pieces.{pieces}
use Rattle.tl_patch_edit.specs.Found.{has_mark}
use Rattle.tl_patch_edit.specs.Inner.Parts.{parts_view}
use Rattle.tl_patch_edit.specs.Sayings.{sayings}
use Rattle.tl_patch_edit.proofs.Edited.{never_marked, never_read, read_as}
use Rattle.tl_patch_edit.proofs.edit.read_again.Goals as goal

pub returns-clause-text : goal.returns-clause-text
returns-clause-text c =
    read_as c.has_mark-is_marked.result c.args.page.now c.in_ok-text.text.items (parts_view c.args.wanted.now) c.has_mark-is_marked.ensures c.in_ok-text.ensures
    (ap has_mark (sym c.as_slice.ensures.value) ∙ sym c.has_mark-is_still_marked.ensures ∙ c.is_same-is_same.ensures.is c.if-not-is_same.false)
    (λ ss h. ap (λ xs. sayings (pieces xs)) (sym c.as_slice-2.ensures.value) ∙ c.in_ok-is_it.ensures.is c.if-not-is_it.false ss h)

pub returns-then-not-is_same-clause-error : goal.returns-then-not-is_same-clause-error
returns-then-not-is_same-clause-error c = (
  refl,
  never_marked c.has_mark-is_marked.result c.args.page.now c.in_ok-text.text.items (parts_view c.args.wanted.now) c.has_mark-is_marked.ensures c.in_ok-text.ensures
      (λ h. c.is_same-is_same.ensures.not c.if-not-is_same.true (c.has_mark-is_still_marked.ensures ∙ ap has_mark c.as_slice.ensures.value ∙ h)),
)

pub returns-then-not-is_it-clause-error : goal.returns-then-not-is_it-clause-error
returns-then-not-is_it-clause-error c = (
  refl,
  never_read c.has_mark-is_marked.result c.args.page.now c.in_ok-text.text.items (parts_view c.args.wanted.now) c.has_mark-is_marked.ensures c.in_ok-text.ensures
      (λ ss h e. c.in_ok-is_it.ensures.not c.if-not-is_it.true ss h (ap (λ xs. sayings (pieces xs)) c.as_slice-2.ensures.value ∙ e)),
)
