use Rattle.std.proofs.Common.{◌≡◌, true, take}
use Rattle.tl_patch_edit.specs.Inner.Parts.{are_quiet, parts_view}
use Rattle.tl_patch_edit.proofs.compare.quiet_len.Given as goal

abbrev pub invariant-loop-at : goal.invariant-loop-at
invariant-loop-at l = are_quiet (parts_view (take l.at l.parts)) ≡ true
