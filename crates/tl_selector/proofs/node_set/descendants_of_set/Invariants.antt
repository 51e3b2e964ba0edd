use Rattle.std.proofs.Common.{◌+◌, length, map}
use Rattle.tl_selector.proofs.Spreads.{unmarked}
use Rattle.tl_selector.proofs.Works.{Work}
use Rattle.tl_selector.proofs.node_set.descendants_of_set.Given as goal

abbrev pub invariant-work : goal.invariant-work
invariant-work g l = Work (map g.N.Element.node l.nodes) l.holds l.marks.items l.queue.items

abbrev pub decreases-work : goal.decreases-work
decreases-work g l = unmarked l.marks.items + length l.queue.items
