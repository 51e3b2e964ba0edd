use Rattle.std.proofs.Common.{◌≡◌, length}
use Rattle.tl_tree_extract.specs.Runs.{behind}
use Rattle.tl_tree_extract.proofs.run.behind.Given as goal

abbrev pub invariant-loop-rest : goal.invariant-loop-rest
invariant-loop-rest l = behind l.run l.rest ≡ behind l.run l.bytes

abbrev pub decreases-loop-rest : goal.decreases-loop-rest
decreases-loop-rest l = length l.rest
