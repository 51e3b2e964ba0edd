use Rattle.std.proofs.Common.{◌≡◌, length}
use Rattle.tl_tree_safe.specs.Values.{trimmed_start}
use Rattle.tl_tree_safe.proofs.values.trimmed_start.Given as goal

abbrev pub invariant-loop-rest : goal.invariant-loop-rest
invariant-loop-rest l = trimmed_start l.link ≡ trimmed_start l.rest

abbrev pub decreases-loop-rest : goal.decreases-loop-rest
decreases-loop-rest l = length l.rest
