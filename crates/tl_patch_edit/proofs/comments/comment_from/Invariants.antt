use Rattle.tl_patch_edit.proofs.Gone.{NoCommentBetween}
use Rattle.tl_patch_edit.proofs.comments.comment_from.Given as goal

-- none so far
abbrev pub invariant-loop-at : goal.invariant-loop-at
invariant-loop-at l = NoCommentBetween l.fn.from l.at l.tokens l.place
