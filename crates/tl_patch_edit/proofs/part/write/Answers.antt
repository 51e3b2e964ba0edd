use Rattle.tl_patch_edit.proofs.Lists.{written_all, written_more}
use Rattle.tl_patch_edit.proofs.part.write.Goals as goal

pub loop-at-preserved : goal.loop-at-preserved
loop-at-preserved c = written_more c.args.parts.now c.loop-at.at _ _ _ _ c.loop-at-test.true c.loop-at.invariant c.in_ok-extend_from_slice.ensures.items

pub returns : goal.returns
returns c = written_all c.args.parts.now c.loop-at.at _ _ c.loop-at-test.false c.loop-at.invariant
