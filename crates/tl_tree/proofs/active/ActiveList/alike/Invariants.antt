use Rattle.tl_tree.proofs.Actives.{AlikeSoFar}
use Rattle.tl_tree.specs.Inner.Store.{tag_at}
use Rattle.tl_tree.proofs.active.ActiveList.alike.Given as goal

abbrev pub invariant-loop-left : goal.invariant-loop-left
invariant-loop-left l = AlikeSoFar l.store (tag_at l.store l.own) l.self.entries.items l.left l.alike

abbrev pub decreases-loop-left : goal.decreases-loop-left
decreases-loop-left l = l.left
