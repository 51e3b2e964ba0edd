use Rattle.tl_tree_select.proofs.Targets.{Passed}
use Rattle.tl_tree_select.proofs.links.targets.Given as goal

abbrev pub invariant-down : goal.invariant-down
invariant-down l = Passed l.links l.marks l.often l.number l.found.items

abbrev pub decreases-down : goal.decreases-down
decreases-down l = l.number
