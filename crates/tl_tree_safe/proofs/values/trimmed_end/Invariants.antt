use Rattle.std.proofs.Common.{length, reverse, ◌≡◌}
use Rattle.tl_tree_safe.specs.Values.{trimmed_start}
use Rattle.tl_tree_safe.proofs.values.trimmed_end.Given as goal

abbrev pub invariant-loop-rest : goal.invariant-loop-rest
invariant-loop-rest l = trimmed_start (reverse l.rest) ≡ trimmed_start (reverse l.link)

abbrev pub decreases-loop-rest : goal.decreases-loop-rest
decreases-loop-rest l = length l.rest
