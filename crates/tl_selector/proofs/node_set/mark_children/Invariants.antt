use Rattle.std.proofs.Common.{◌≡◌, drop}
use Rattle.tl_spec.specs.Tree.Element.{children_of}
use Rattle.tl_selector.specs.NodeSet.{spread}
use Rattle.tl_selector.proofs.node_set.mark_children.Given as goal

abbrev pub invariant-loop-place : goal.invariant-loop-place
invariant-loop-place g l = spread (drop l.place (children_of (g.N.Element.node l.node))) (l.marks.items, l.queue.items) ≡ spread (children_of (g.N.Element.node l.fn.node)) (l.fn.marks.items, l.fn.queue.items)
