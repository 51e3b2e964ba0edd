use Rattle.tl_patch_edit.proofs.Gone.{comment_is, no_comment_all, no_comment_more, no_comment_yet}
use Rattle.tl_patch_edit.proofs.comments.comment_from.Goals as goal

pub returns-then-is_it-clause-comment : goal.returns-then-is_it-clause-comment
returns-then-is_it-clause-comment c =
    comment_is c.args.tokens.now c.args.place c.loop-at.at _ c.loop-at-test.true (c.is_comment_at-is_it.ensures.start c.if-is_it.true) (c.is_comment_at-is_it.ensures.kind c.if-is_it.true)
