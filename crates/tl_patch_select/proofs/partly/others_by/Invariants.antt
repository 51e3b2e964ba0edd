use Rattle.std.proofs.Common.{◌≡◌, take}
use Rattle.tl_patch_select.specs.Partly.{others}
use Rattle.tl_patch_select.proofs.partly.others_by.Given as goal

-- those of the elements so far
abbrev pub invariant-loop-number : goal.invariant-loop-number
invariant-loop-number l = l.left.items ≡ others l.tree l.told (take l.number-index l.numbers)
