use Rattle.std.proofs.Common.{Some, ap, sym, ◌∙◌}
use Rattle.std.proofs.lemmas.Option.{slice_get-get_or}
use Rattle.tl_patch_select.proofs.Crossing.{later_no_less, one_whole, whole_before, whole_early, whole_end}
use Rattle.tl_patch_select.proofs.in_order.is_whole_at.Goals as goal

pub loop-at-init : goal.loop-at-init
loop-at-init c = record {
  behind = c.count_before-first.ensures.behind;
  whole = λ tail. whole_before c.args.elements.now c.args.tree.now tail c.args.number c.args.place c.count_before-first.result c.count_before-first.ensures.before;
}

pub is_whole_in-is_whole-requires-clause-begins : goal.is_whole_in-is_whole-requires-clause-begins
is_whole_in-is_whole-requires-clause-begins c = c.requires.begins ∙ ap Some (sym (c.is_key-is_there.ensures.yes c.if-not-is_there.false))

pub returns-then-not-is_there : goal.returns-then-not-is_there
returns-then-not-is_there c = λ _ tail.
    whole_early c.args.elements.now c.args.tree.now tail c.args.number c.args.place c.loop-at.at _ c.is_key-is_there.result c.requires.rising c.loop-at.invariant.behind c.loop-at-test.true
    (c.loop-at.invariant.whole tail) c.is_key-is_there.ensures.no c.if-not-is_there.true

pub loop-at-preserved : goal.loop-at-preserved
loop-at-preserved c = record {
  behind = later_no_less c.args.elements.now c.loop-at.at c.args.place c.loop-at.invariant.behind;
  whole = λ tail. one_whole c.args.elements.now c.args.tree.now tail c.args.number c.args.place c.loop-at.at _ (c.loop-at.invariant.whole tail) (slice_get-get_or c.args.elements.now c.loop-at.at _ c.loop-at-test.true)
      (c.is_whole_in-is_whole.ensures c.if-not-is_whole.false tail);
}

pub returns : goal.returns
returns c = λ _ tail. whole_end c.args.elements.now c.args.tree.now tail c.args.number c.args.place c.loop-at.at c.loop-at-test.false (c.loop-at.invariant.whole tail)
