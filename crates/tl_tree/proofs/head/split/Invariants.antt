use Rattle.tl_tree.specs.Inner.Heads.{IsSplit, front_weight}
use Rattle.tl_tree.specs.Inner.Store.{nodes_of}
use Rattle.tl_tree.proofs.head.split.Given as goal

abbrev pub invariant-loop-node : goal.invariant-loop-node
invariant-loop-node l =
    IsSplit l.store (nodes_of l.store l.row) l.front.items l.behind.items

abbrev pub decreases-loop-node : goal.decreases-loop-node
decreases-loop-node l = front_weight l.store l.front.items
