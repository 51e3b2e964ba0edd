use Rattle.std.proofs.Common.{ℕ, ◌+◌, List, ap, drop, false, subst, sym, true, ◌∙◌}
use Rattle.tl_patch_spec.specs.RawTexts.{raw_until}
use Rattle.tl_patch_edit.specs.Errors.{pieces_in}
use Rattle.tl_patch_edit.specs.Inner.Parts.{IsPieceOf, Part}
use Rattle.tl_patch_edit.proofs.Misread.{none_raw, raw_step}
use Rattle.tl_patch_edit.proofs.raw_text.raw_until.Goals.{else-is_it, then-is_it}
use Rattle.tl_patch_edit.proofs.raw_text.raw_until.Goals as goal

pub loop-at-preserved : goal.loop-at-preserved
loop-at-preserved c =
    let page : List ℕ = c.args.page.now in
    let at : ℕ = c.loop-at.at in
    elim c.if-is_it.branch [
      | then-is_it w ↦
          ap (λ n. raw_until n (at + 1) (drop (at + 1) (pieces_in page))) w.until-is
          ∙ sym (raw_step page c.args.tokens.now at c.loop-at.until _ true c.requires c.loop-at-test.true
          (λ p h. c.in_ok-is_it.ensures p (subst (λ (x : Part). IsPieceOf x p) (sym c.part_at.ensures) h) ∙ w.if-is_it.true))
          ∙ c.loop-at.invariant
      | else-is_it w ↦
          ap (λ n. raw_until n (at + 1) (drop (at + 1) (pieces_in page))) w.until-is
          ∙ sym (raw_step page c.args.tokens.now at c.loop-at.until _ false c.requires c.loop-at-test.true
          (λ p h. c.in_ok-is_it.ensures p (subst (λ (x : Part). IsPieceOf x p) (sym c.part_at.ensures) h) ∙ w.if-is_it.false))
          ∙ c.loop-at.invariant
    ]

pub returns : goal.returns
returns c = sym (none_raw c.args.page.now c.args.tokens.now c.loop-at.at c.loop-at.until c.requires c.loop-at-test.false) ∙ c.loop-at.invariant
