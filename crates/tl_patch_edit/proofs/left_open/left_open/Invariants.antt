use Rattle.std.proofs.Common.{◌≡◌, drop}
use Rattle.tl_patch_spec.specs.LeftOpen.{none_open, open_with_all}
use Rattle.tl_patch_elements.specs.View.{elements_view}
use Rattle.tl_patch_edit.specs.Open.{left_view}
use Rattle.tl_patch_edit.proofs.left_open.left_open.Given as goal

abbrev pub invariant-loop-at : goal.invariant-loop-at
invariant-loop-at l = open_with_all (elements_view (drop l.at l.elements)) (left_view l.left)
    ≡ open_with_all (elements_view l.elements) (none_open l.len)
