use Rattle.std.proofs.Common.{◌≡◌, take}
use Rattle.tl_patch_select.specs.Selected.{places_of}
use Rattle.tl_patch_select.proofs.selected.places_of.Given as goal

-- the places are those of the numbers so far
abbrev pub invariant-loop-number : goal.invariant-loop-number
invariant-loop-number l = l.places.items ≡ places_of l.tree (take l.number-index l.numbers)
