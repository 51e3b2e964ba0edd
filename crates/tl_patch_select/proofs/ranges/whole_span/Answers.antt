use Rattle.std.proofs.Common.{refl}
use Rattle.tl_patch_select.proofs.Bounded.{goes_on}
use Rattle.tl_patch_select.proofs.ranges.whole_span.Goals as goal

pub loop-next-preserved : goal.loop-next-preserved
loop-next-preserved c = goes_on c.args.all.now c.args.start c.args.past c.loop-next.span c.span_before-next.result _ c.loop-next.invariant c.span_before-next.ensures refl c.joined.ensures
