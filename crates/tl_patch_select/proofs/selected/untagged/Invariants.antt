use Rattle.std.proofs.Common.{◌≡◌, drop}
use Rattle.tl_patch_select.specs.Selected.{untagged}
use Rattle.tl_patch_select.proofs.selected.untagged.Given as goal

-- a tag stands for each so far
abbrev pub invariant-loop-number : goal.invariant-loop-number
invariant-loop-number l = untagged l.tree l.numbers ≡ untagged l.tree (drop l.number-index l.numbers)
