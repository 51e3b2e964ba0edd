use Rattle.std.proofs.Common.{length, ◌≡◌, ◌≤◌}
use Rattle.tl_patch_select.specs.Inner.Sources.{AreSources}
use Rattle.tl_patch_select.proofs.Crossing.{AreWholeFrom}
use Rattle.tl_patch_select.proofs.whole.last_crossed.Given as goal

abbrev pub decreases-loop-left : goal.decreases-loop-left
decreases-loop-left l = l.left

-- those so far are whole
abbrev pub invariant-loop-left : goal.invariant-loop-left
invariant-loop-left l = record {
  within : l.left ≤ length l.numbers;
  tail : l.sources.tail ≡ l.fn.sources.tail;
  ready : AreSources l.tree l.sources;
  whole : AreWholeFrom l.elements l.tree l.fn.sources.tail l.numbers l.left;
}
