use Rattle.std.proofs.Common.{◌+◌, ◌<◌, List, length, sym, subst₂}
use Rattle.tl_patch.proofs.Tags.{some_of}
use Rattle.tl_patch_edit.specs.declared.part.Part.{Part}
use Rattle.tl_patch_edit.specs.Inner.Parts.{SayOtherwise, parts_view}
use Rattle.tl_patch_edit.proofs.Refusals.{none_of}
use Rattle.tl_patch_edit.proofs.Steps.{Otherwise, Same, otherwise_more, same_end, same_more, step_smaller}
use Rattle.tl_patch_edit.proofs.compare.are_same.Goals as goal

pub steps-init : goal.steps-init
steps-init c = record { same = λ h. h; otherwise = λ h. h }

pub steps-preserved : goal.steps-preserved
steps-preserved c = record {
  same = λ h.
      c.steps.invariant.same
      (same_more c.steps.left.now c.steps.other_left.now c.in-Some.counts.0 c.in-Some.counts.1 (some_of _ _ _ c.in-Some.is c.in_ok-found.ensures.step)
      (subst₂ (λ (xs ys : List Part). Same xs ys) c.after-left.ensures c.after-other_left.ensures h));
  otherwise = λ h.
      c.steps.invariant.otherwise
      (otherwise_more c.steps.left.now c.steps.other_left.now c.in-Some.counts.0 c.in-Some.counts.1 (some_of _ _ _ c.in-Some.is c.in_ok-found.ensures.step)
      (subst₂ (λ (xs ys : List Part). Otherwise xs ys) c.after-left.ensures c.after-other_left.ensures h));
}

pub steps-smaller : goal.steps-smaller
steps-smaller c =
    subst₂ (λ (xs ys : List Part). length xs + length ys < length c.steps.left.now + length c.steps.other_left.now) (sym c.after-left.ensures) (sym c.after-other_left.ensures)
    (step_smaller c.steps.left.now c.steps.other_left.now c.in-Some.counts.0 c.in-Some.counts.1 (some_of _ _ _ c.in-Some.is c.in_ok-found.ensures.step))

pub returns-in_default-clause-otherwise : goal.returns-in_default-clause-otherwise
returns-in_default-clause-otherwise c = λ e.
    c.steps.invariant.otherwise (none_of _ (SayOtherwise (parts_view c.steps.left.now) (parts_view c.steps.other_left.now)) c.in_default.is c.in_ok-found.ensures.none)

pub returns-clause-same : goal.returns-clause-same
returns-clause-same c = λ e. c.steps.invariant.same (same_end c.steps.left.now c.steps.other_left.now (c.is_left.ensures.one c.steps-test.false) (c.is_left.ensures.other c.steps-test.false))

pub step-requires : goal.step-requires
step-requires c = c.is_left.ensures.left c.steps-test.true
