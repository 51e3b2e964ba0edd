use Rattle.std.proofs.Common.{◌+◌, length}
use Rattle.tl_patch_edit.specs.Inner.Parts.{SayOtherwise, SaySame, parts_view}
use Rattle.tl_patch_edit.proofs.Steps.{Otherwise, Same}
use Rattle.tl_patch_edit.proofs.compare.are_same.Given as goal

abbrev pub invariant-steps : goal.invariant-steps
invariant-steps l = record {
  same : Same l.left l.other_left → SaySame (parts_view l.fn.parts) (parts_view l.fn.others);
  otherwise : Otherwise l.left l.other_left → SayOtherwise (parts_view l.fn.parts) (parts_view l.fn.others);
}

abbrev pub decreases-steps : goal.decreases-steps
decreases-steps l = length l.left + length l.other_left
