use Rattle.tl_patch_edit.proofs.Lists.{copied_all, copied_more}
use Rattle.tl_patch_edit.proofs.part.copy.Goals as goal

pub loop-at-preserved : goal.loop-at-preserved
loop-at-preserved c = copied_more c.args.parts.now c.loop-at.at _ _ _ _ c.loop-at-test.true c.loop-at.invariant c.in_ok-push.ensures

pub returns : goal.returns
returns c = copied_all c.args.parts.now c.loop-at.at _ _ c.loop-at-test.false c.loop-at.invariant
