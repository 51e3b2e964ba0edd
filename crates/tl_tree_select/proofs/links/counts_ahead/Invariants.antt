use Rattle.tl_tree_select.proofs.Ahead.{Counted}
use Rattle.tl_tree_select.proofs.links.counts_ahead.Given as goal

abbrev pub invariant-loop-number : goal.invariant-loop-number
invariant-loop-number l = Counted l.links l.marks l.number l.counts.items
