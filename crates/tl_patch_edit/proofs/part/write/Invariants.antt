use Rattle.std.proofs.Common.{◌≡◌, ◌++◌, take}
use Rattle.tl_patch_edit.specs.Inner.Parts.{part_bytes, parts_view}
use Rattle.tl_patch_edit.proofs.part.write.Given as goal

abbrev pub invariant-loop-at : goal.invariant-loop-at
invariant-loop-at l = l.out.items ≡ l.fn.out.items ++ part_bytes (parts_view (take l.at l.parts))
