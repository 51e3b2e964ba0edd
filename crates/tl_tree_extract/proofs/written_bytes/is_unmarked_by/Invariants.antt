use Rattle.std.proofs.Common.{length, ◌-◌, ◌≤◌}
use Rattle.tl_tree_extract.specs.Inner.Marked.{AreUnmarked}
use Rattle.tl_tree_extract.proofs.written_bytes.is_unmarked_by.Given as goal

abbrev pub invariant-loop-start : goal.invariant-loop-start
invariant-loop-start g l = (l.start ≤ length l.text) × AreUnmarked l.written l.text 0 l.start

abbrev pub decreases-loop-start : goal.decreases-loop-start
decreases-loop-start g l = length l.text - l.start
