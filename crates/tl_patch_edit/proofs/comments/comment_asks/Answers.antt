use Rattle.tl_patch_edit.proofs.Gone.{ask_gone, asks_begin, asks_end, asks_lack, asks_more}
use Rattle.tl_patch_edit.proofs.comments.comment_asks.Goals as goal

pub loop-at-init : goal.loop-at-init
loop-at-init c = asks_begin c.args.tokens.now c.args.places.now _ c.in_ok-asks.ensures.items

pub loop-at-preserved : goal.loop-at-preserved
loop-at-preserved c =
    asks_more c.args.tokens.now c.args.places.now c.loop-at.at c.loop-at.from _ _ _ c.loop-at.asks.items c.push_gone.new.asks.items c.loop-at-test.true c.in-Some.ensures.order c.in-Some.ensures.comment
    (ask_gone c.in-Some.start c.in_ok-until.until c.in_ok-until.ensures) c.in_ok-until.ensures c.in_ok-push_gone.ensures c.loop-at.invariant

pub returns-in_default-clause-error : goal.returns-in_default-clause-error
returns-in_default-clause-error c =
    asks_lack c.args.tokens.now c.args.places.now c.loop-at.at c.loop-at.from 0 c.loop-at.asks.items c.loop-at-test.true c.in_default.ensures.none c.loop-at.invariant

pub returns-clause-asks : goal.returns-clause-asks
returns-clause-asks c = asks_end c.args.tokens.now c.args.places.now c.loop-at.at c.loop-at.from c.loop-at.asks.items c.loop-at-test.false c.loop-at.invariant
