use Rattle.std.proofs.Common.{length, map}
use Rattle.tl_selector.proofs.Unders.{Under}
use Rattle.tl_selector.proofs.node_set.children_of_set.Given as goal

abbrev pub invariant-work : goal.invariant-work
invariant-work g l = Under (map g.N.Element.node l.nodes) l.holds l.marks.items l.queue.items

abbrev pub decreases-work : goal.decreases-work
decreases-work g l = length l.queue.items
