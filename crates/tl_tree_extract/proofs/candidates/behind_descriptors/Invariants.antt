use Rattle.std.proofs.Common.{◌≡◌, false, length}
use Rattle.tl_tree_extract.specs.Candidates.{behind_descriptors}
use Rattle.tl_tree_extract.proofs.candidates.behind_descriptors.Given as goal

abbrev pub invariant-loop-rest : goal.invariant-loop-rest
invariant-loop-rest l = behind_descriptors l.parens l.rest ≡ behind_descriptors false l.bytes

abbrev pub decreases-loop-rest : goal.decreases-loop-rest
decreases-loop-rest l = length l.rest
