use Rattle.tl_patch_select.proofs.Bounded.{known_there}
use Rattle.tl_patch_select.proofs.ranges.span_before.Goals as goal

pub returns-then-last-past : goal.returns-then-last-past
returns-then-last-past c = known_there c.args.all.now c.args.at c.args.past c.known_span-known.result _ c.requires.rising c.known_span-known.ensures c.if-last-past.true
