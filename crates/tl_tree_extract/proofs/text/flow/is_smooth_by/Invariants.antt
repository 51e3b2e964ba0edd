use Rattle.std.proofs.Common.{length, ◌-◌, ◌<◌, ◌≤◌}
use Rattle.tl_tree_extract.specs.Inner.Runs.{AreSmooth}
use Rattle.tl_tree_extract.proofs.text.flow.is_smooth_by.Given as goal

abbrev pub invariant-loop-start : goal.invariant-loop-start
invariant-loop-start g l =
    (0 < l.start) × (l.start ≤ length l.text) × AreSmooth l.text 1 l.start

abbrev pub decreases-loop-start : goal.decreases-loop-start
decreases-loop-start g l = length l.text - l.start
