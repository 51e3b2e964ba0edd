use Rattle.std.proofs.Common.{false, ◌+◌, ◌≡◌}
use Rattle.tl_tree_extract.specs.Inner.Runs.{AreSmooth}
use Rattle.tl_tree_extract.proofs.text.flow.has_rough.Given as goal

abbrev pub invariant-loop-place : goal.invariant-loop-place
invariant-loop-place g l = l.found ≡ false → AreSmooth l.text l.start (l.start + l.place)
