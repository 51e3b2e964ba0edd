use Rattle.std.proofs.Common.{◌≡◌, ◌≤◌, drop, length}
use Rattle.tl_patch_elements.specs.View.{elements_view}
use Rattle.tl_patch_edit.specs.Several.{AreExtents}
use Rattle.tl_patch_edit.proofs.extent.extents_of.Given as goal

abbrev pub invariant-loop-left : goal.invariant-loop-left
invariant-loop-left l = record {
  within : l.left ≤ length l.elements;
  len : length l.extents.items ≡ l.len;
  extents : AreExtents (elements_view (drop l.left l.elements)) l.extents.items;
}

abbrev pub decreases-loop-left : goal.decreases-loop-left
decreases-loop-left l = l.left
