use Rattle.std.proofs.lemmas.List.{drop_all}
use Rattle.tl_patch_edit.proofs.Apart.{refused_begin, refused_end, refused_more, starts_of_page}
use Rattle.tl_patch_edit.proofs.refused.all_refused.Goals as goal

pub refused_one-requires-clause-start : goal.refused_one-requires-clause-start
refused_one-requires-clause-start c = starts_of_page c.args.page.now c.args.tokens.now _ c.start_there-start.result c.requires.tokens c.start_there-start.ensures.start

pub loop-at-preserved : goal.loop-at-preserved
loop-at-preserved c = record {
  within = c.sought-from.ensures.within;
  so_far = refused_more c.args.page.now c.args.tokens.now c.args.patches.now c.loop-at.at c.loop-at.from c.sought-from.result _ c.start_there-start.result c.in_ok-found.found c.loop-at.gone c.refused_one.new.gone
      c.loop-at.errors.items c.push_if.new.errors.items c.requires.tokens c.loop-at-test.true c.sought-from.ensures.order c.sought-from.ensures.passed c.sought-from.ensures.reached c.start_there-start.ensures.start
      c.start_there-start.ensures.number c.start_there-start.ensures.none c.in_ok-found.ensures.error c.in_ok-found.ensures.gone c.in_ok-push_if.ensures c.loop-at.invariant.so_far;
}
