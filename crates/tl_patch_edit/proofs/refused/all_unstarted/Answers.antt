use Rattle.std.proofs.lemmas.List.{drop_all}
use Rattle.tl_patch_edit.proofs.Apart.{unstarted_begin, unstarted_end, unstarted_more}
use Rattle.tl_patch_edit.proofs.refused.all_unstarted.Goals as goal

pub loop-at-preserved : goal.loop-at-preserved
loop-at-preserved c = record {
  within = c.sought-from.ensures.within;
  so_far = unstarted_more c.args.page.now c.args.tokens.now c.args.places.now c.loop-at.at c.loop-at.from c.sought-from.result _ c.start_there-start.result c.loop-at.unstarted.items c.push_unless.new.unstarted.items c.requires
      c.loop-at-test.true c.sought-from.ensures.order c.sought-from.ensures.passed c.sought-from.ensures.reached c.start_there-start.ensures.start c.start_there-start.ensures.number c.start_there-start.ensures.none
      c.in_ok-push_unless.ensures c.loop-at.invariant.so_far;
}
