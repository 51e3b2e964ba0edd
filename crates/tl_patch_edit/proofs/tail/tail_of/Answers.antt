use Rattle.std.proofs.Common.{◌-◌, subst, sym, ◌∙◌}
use Rattle.tl_patch_edit.specs.Inner.Parts.{IsPieceOf, Part}
use Rattle.tl_patch_edit.specs.declared.tail.Tail.{Tail}
use Rattle.tl_patch_edit.proofs.Tails.{IsTailSoFar, ends_there, goes_on, none_yet}
use Rattle.tl_patch_edit.proofs.tail.tail_of.Goals as goal

pub loop-left-init : goal.loop-left-init
loop-left-init c = none_yet c.args.page.now c.args.tokens.now c.requires

pub returns-then-not-is_in_tail : goal.returns-then-not-is_in_tail
returns-then-not-is_in_tail c =
    ends_there c.args.page.now c.args.tokens.now c.loop-left.left _ c.in_ok-part.part c.loop-left.tail c.requires c.loop-left-test.true c.loop-left.invariant
    (λ p h. c.in_ok-part.ensures p (subst (λ (x : Part). IsPieceOf x p) (sym c.part_at.ensures) h)) (sym c.is_in_tail-is_in_tail.ensures ∙ c.if-not-is_in_tail.true)

pub loop-left-preserved : goal.loop-left-preserved
loop-left-preserved c =
    subst (λ (t : Tail). IsTailSoFar c.args.page.now c.args.tokens.now (c.loop-left.left - 1) t) (sym c.with_part-tail.ensures)
    (goes_on c.args.page.now c.args.tokens.now c.loop-left.left _ c.in_ok-part.part c.loop-left.tail c.requires c.loop-left-test.true c.loop-left.invariant
    (λ p h. c.in_ok-part.ensures p (subst (λ (x : Part). IsPieceOf x p) (sym c.part_at.ensures) h)) (sym c.is_in_tail-is_in_tail.ensures ∙ c.if-not-is_in_tail.false))
