use Rattle.std.proofs.Common.{◌≡◌, arith, false, length, subst, sym, true, ◌∙◌}
use Rattle.tl_patch_edit.specs.Inner.Parts.{IsPieceOf, Part}
use Rattle.tl_patch_edit.proofs.Misread.{none_unsure, unsure_step}
use Rattle.tl_patch_edit.proofs.raw_text.unsure_from.Goals as goal

pub returns-then-is_it : goal.returns-then-is_it
returns-then-is_it c =
    sym (unsure_step c.args.page.now c.args.tokens.now c.loop-at.at _ true c.requires c.loop-at-test.true
    (λ p h. c.in_ok-is_it.ensures p (subst (λ (x : Part). IsPieceOf x p) (sym c.part_at.ensures) h) ∙ c.if-is_it.true))
    ∙ c.loop-at.invariant

pub loop-at-preserved : goal.loop-at-preserved
loop-at-preserved c =
    sym (unsure_step c.args.page.now c.args.tokens.now c.loop-at.at _ false c.requires c.loop-at-test.true
    (λ p h. c.in_ok-is_it.ensures p (subst (λ (x : Part). IsPieceOf x p) (sym c.part_at.ensures) h) ∙ c.if-is_it.false))
    ∙ c.loop-at.invariant

pub returns : goal.returns
returns c =
    (let same : length c.args.tokens.now ≡ c.loop-at.at = omega (arith, c.loop-at-test.false, c.loop-at.auto.at-end) in same)
    ∙ sym (none_unsure c.args.page.now c.args.tokens.now c.loop-at.at c.requires c.loop-at-test.false)
    ∙ c.loop-at.invariant
