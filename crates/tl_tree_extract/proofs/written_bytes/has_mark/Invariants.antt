use Rattle.std.proofs.Common.{false, ◌+◌, ◌≡◌}
use Rattle.tl_tree_extract.specs.Inner.Marked.{AreUnmarked}
use Rattle.tl_tree_extract.proofs.written_bytes.has_mark.Given as goal

abbrev pub invariant-loop-place : goal.invariant-loop-place
invariant-loop-place g l =
    l.found ≡ false → AreUnmarked l.written l.text l.start (l.start + l.place)
