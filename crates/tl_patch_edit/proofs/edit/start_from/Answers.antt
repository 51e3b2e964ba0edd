use Rattle.tl_patch_edit.proofs.Starts.{start_is}
use Rattle.tl_patch_edit.proofs.edit.start_from.Goals as goal

pub returns-then-is_it-clause-start : goal.returns-then-is_it-clause-start
returns-then-is_it-clause-start c =
    start_is c.args.tokens.now c.args.place c.loop-at.at _ c.loop-at-test.true (c.is_start_at-is_it.ensures.start c.if-is_it.true) (c.is_start_at-is_it.ensures.kind c.if-is_it.true)
