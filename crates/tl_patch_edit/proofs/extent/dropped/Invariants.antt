use Rattle.std.proofs.Common.{◌≤◌, ◌-◌, length}
use Rattle.tl_patch_edit.specs.Several.{AreDropped}
use Rattle.tl_patch_edit.proofs.extent.dropped.Given as goal

abbrev pub invariant-tags : goal.invariant-tags
invariant-tags l = record { within : length l.extents.items ≤ l.len; dropped : AreDropped l.extents.items }

abbrev pub decreases-tags : goal.decreases-tags
decreases-tags l = l.len - length l.extents.items
