use Rattle.std.proofs.Common.{◌≡◌, drop}
use Rattle.tl_patch_spec.specs.LeftOpen.{without_ended}
use Rattle.tl_patch_edit.specs.Open.{left_view}
use Rattle.tl_patch_edit.specs.View.{meant_view}
use Rattle.tl_patch_edit.proofs.left_open.without_ended.Given as goal

abbrev pub invariant-loop-at : goal.invariant-loop-at
invariant-loop-at l = without_ended (meant_view (drop l.at l.meant)) (left_view l.left) ≡ without_ended (meant_view l.meant) (left_view l.initial.left)
