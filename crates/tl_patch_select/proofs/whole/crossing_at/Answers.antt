use Rattle.std.proofs.Common.{rules, ◌∙◌}
use Rattle.tl_patch_select.proofs.Crossing.{later_no_less, whole_early, whole_end, whole_on}
use Rattle.tl_patch_select.proofs.whole.crossing_at.Goals as goal

pub returns-then-not-is_there-clause-whole : goal.returns-then-not-is_there-clause-whole
returns-then-not-is_there-clause-whole c =
    whole_early c.args.elements.now c.args.tree.now c.args.sources.now.tail c.args.number c.args.place c.loop-at.at _ c.is_key-is_there.result c.requires.rising c.loop-at.invariant.behind c.loop-at-test.true
    c.loop-at.invariant.whole c.is_key-is_there.ensures.no c.if-not-is_there.true

pub loop-at-preserved : goal.loop-at-preserved
loop-at-preserved c = record {
  behind = later_no_less c.args.elements.now c.loop-at.at c.args.place c.loop-at.invariant.behind;
  tail = c.crossing-found.ensures.tail ∙ c.loop-at.invariant.tail;
  ready = c.crossing-found.ensures.ready;
  whole = whole_on c.args.elements.now c.args.tree.now c.args.sources.now.tail c.loop-at.sources.tail c.args.number c.args.place c.loop-at.at _ c.crossing-found.result c.loop-at.invariant.tail c.loop-at-test.true
      c.loop-at.invariant.whole (search rules) c.crossing-found.ensures.whole;
}

pub returns-clause-whole : goal.returns-clause-whole
returns-clause-whole c = whole_end c.args.elements.now c.args.tree.now c.args.sources.now.tail c.args.number c.args.place c.loop-at.at c.loop-at-test.false c.loop-at.invariant.whole
