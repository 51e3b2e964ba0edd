use Rattle.tl_patch_edit.proofs.Apart.{none_passed, none_reached, passed_all, passed_more, reached_at}
use Rattle.tl_patch_edit.proofs.refused.sought.Goals as goal

pub loop-at-init : goal.loop-at-init
loop-at-init c = none_passed c.args.tokens.now c.args.place c.args.from

pub loop-at-preserved : goal.loop-at-preserved
loop-at-preserved c =
    passed_more c.args.tokens.now c.args.place c.args.from c.loop-at.at _ c.loop-at-test.true (c.is_reached-is_reached.ensures.before c.if-is_reached.false) (c.is_reached-is_reached.ensures.not c.if-is_reached.false)
    c.loop-at.invariant

pub returns-then-is_reached-clause-reached : goal.returns-then-is_reached-clause-reached
returns-then-is_reached-clause-reached c = reached_at c.args.tokens.now c.args.place c.loop-at.at _ c.loop-at-test.true (c.is_reached-is_reached.ensures.reached c.if-is_reached.true)

pub returns-clause-passed : goal.returns-clause-passed
returns-clause-passed c = passed_all c.args.tokens.now c.args.place c.args.from c.loop-at.at c.loop-at-test.false c.loop-at.invariant

pub returns-clause-reached : goal.returns-clause-reached
returns-clause-reached c = none_reached c.args.tokens.now c.args.place
