use Rattle.std.proofs.Common.{◌≡◌, ◌++◌, take}
use Rattle.tl_patch_edit.specs.Inner.Parts.{parts_view}
use Rattle.tl_patch_edit.proofs.part.copy.Given as goal

abbrev pub invariant-loop-at : goal.invariant-loop-at
invariant-loop-at l = parts_view l.out.items ≡ parts_view l.fn.out.items ++ parts_view (take l.at l.parts)
