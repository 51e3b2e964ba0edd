use Rattle.std.proofs.Common.{◌≡◌, drop}
use Rattle.tl_patch_edit.specs.Inner.Within.{within_from, within_text}
use Rattle.tl_patch_edit.proofs.seam.within_text.Given as goal

abbrev pub invariant-loop-at : goal.invariant-loop-at
invariant-loop-at l = within_from l.within (drop l.at l.text) ≡ within_text l.text
