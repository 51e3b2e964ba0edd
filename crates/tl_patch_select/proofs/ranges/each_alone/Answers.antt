use Rattle.std.proofs.Common.{arith, length, rules, ◌+◌, ◌≡◌}
use Rattle.tl_patch_select.proofs.Bounded.{alone_more}
use Rattle.tl_patch_select.proofs.ranges.each_alone.Goals as goal

pub loop-at-preserved : goal.loop-at-preserved
loop-at-preserved c = record {
  count = (let l : length c.push.new.self.items ≡ length c.loop-at.spans.items + 1 = search rules in omega (arith, l, c.loop-at.invariant.count));
  each = alone_more c.args.all.now c.loop-at.spans.items c.push.new.self.items c.loop-at.at c.alone-span.result c.loop-at.invariant.count c.in_ok-push.ensures.items c.loop-at.invariant.each c.alone-span.ensures.span;
}
