use Rattle.std.proofs.Common.{◌≡◌, take}
use Rattle.tl_patch_edit.specs.Inner.Parts.{characters_in, parts_view}
use Rattle.tl_patch_edit.proofs.compare.characters_in.Given as goal

abbrev pub invariant-loop-at : goal.invariant-loop-at
invariant-loop-at l = l.text.items ≡ characters_in (parts_view (take l.at l.parts))
