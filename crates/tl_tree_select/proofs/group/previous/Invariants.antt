use Rattle.tl_tree_select.proofs.Previous.{Gone}
use Rattle.tl_tree_select.proofs.group.previous.Given as goal

abbrev pub invariant-loop-number : goal.invariant-loop-number
invariant-loop-number l = Gone l.groups l.number l.links.items l.latest.items
