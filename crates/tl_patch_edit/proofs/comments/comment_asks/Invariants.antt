use Rattle.tl_patch_edit.proofs.Gone.{AreAsksSoFar}
use Rattle.tl_patch_edit.proofs.comments.comment_asks.Given as goal

-- those so far
abbrev pub invariant-loop-at : goal.invariant-loop-at
invariant-loop-at l = AreAsksSoFar l.tokens l.places l.at l.from l.asks.items
