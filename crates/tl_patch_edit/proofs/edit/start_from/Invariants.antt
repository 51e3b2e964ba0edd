use Rattle.tl_patch_edit.proofs.Starts.{NoStartBetween}
use Rattle.tl_patch_edit.proofs.edit.start_from.Given as goal

-- none so far
abbrev pub invariant-loop-at : goal.invariant-loop-at
invariant-loop-at l = NoStartBetween l.fn.from l.at l.tokens l.place
