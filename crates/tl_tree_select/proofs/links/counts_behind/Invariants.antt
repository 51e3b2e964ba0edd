use Rattle.tl_tree_select.proofs.Backwards.{Gathered}
use Rattle.tl_tree_select.proofs.links.counts_behind.Given as goal

abbrev pub invariant-down : goal.invariant-down
invariant-down l = Gathered l.links l.marks l.number l.counts.items

abbrev pub decreases-down : goal.decreases-down
decreases-down l = l.number
