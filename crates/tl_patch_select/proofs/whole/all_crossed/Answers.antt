use Rattle.std.proofs.Common.{◌∙◌}
use Rattle.tl_patch_select.proofs.Crossing.{those_all, those_begin, those_more}
use Rattle.tl_patch_select.proofs.whole.all_crossed.Goals as goal

pub loop-number-preserved : goal.loop-number-preserved
loop-number-preserved c = record {
  tail = c.crossed_one-found.ensures.tail ∙ c.loop-number.invariant.tail;
  ready = c.crossed_one-found.ensures.ready;
  crossed = those_more c.args.elements.now c.args.tree.now c.args.sources.now.tail c.loop-number.sources.tail c.args.numbers.now c.loop-number.number-index 0 c.crossed_one-found.result
      c.loop-number.all.items c.push_if.new.all.items c.loop-number.invariant.tail c.loop-number-test.true c.crossed_one-found.ensures.whole c.crossed_one-found.ensures.crossed c.in_ok-push_if.ensures
      c.loop-number.invariant.crossed;
}

pub returns : goal.returns
returns c = those_all c.args.elements.now c.args.tree.now c.args.sources.now.tail c.args.numbers.now c.loop-number.number-index c.loop-number.all.items c.loop-number-test.false c.loop-number.invariant.crossed
