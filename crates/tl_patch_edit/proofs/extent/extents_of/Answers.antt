use Rattle.std.proofs.Common.{◌∙◌, arith}
use Rattle.tl_patch_edit.proofs.Together.{extents_len, extents_step}
use Rattle.tl_patch_edit.proofs.extent.extents_of.Goals as goal

pub loop-left-preserved : goal.loop-left-preserved
loop-left-preserved c = record {
  within = omega arith;
  len = extents_len _ c.in_ok-extent.extent c.loop-left.extents.items c.set_extent.new.extents.items c.set_extent.ensures.within c.set_extent.ensures.past ∙ c.loop-left.invariant.len;
  extents = extents_step c.args.elements.now c.loop-left.left _ c.in_ok-extent.extent c.loop-left.extents.items c.set_extent.new.extents.items c.loop-left-test.true c.loop-left.invariant.within
      c.set_extent.ensures.within c.set_extent.ensures.past c.in_ok-extent.ensures c.loop-left.invariant.extents;
}
