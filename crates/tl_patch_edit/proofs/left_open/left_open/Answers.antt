use Rattle.std.proofs.Common.{ap}
use Rattle.tl_patch_spec.specs.LeftOpen.{LeftOpen, open_with_all}
use Rattle.tl_patch_elements.specs.View.{elements_view}
use Rattle.tl_patch_edit.proofs.left_open.left_open.Goals as goal

pub loop-at-init : goal.loop-at-init
loop-at-init c = ap (λ (left : LeftOpen). open_with_all (elements_view c.args.elements.now) left) c.in_ok-left.ensures
