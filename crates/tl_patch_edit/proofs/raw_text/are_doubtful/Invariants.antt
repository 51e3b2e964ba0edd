use Rattle.std.proofs.Common.{take}
use Rattle.std.specs.List.{All}
use Rattle.tl_patch_edit.specs.Inner.Limits.{IsDoubtless}
use Rattle.tl_patch_edit.proofs.raw_text.are_doubtful.Given as goal

-- none so far
abbrev pub invariant-loop-at : goal.invariant-loop-at
invariant-loop-at l = All IsDoubtless (take l.at l.asks)
