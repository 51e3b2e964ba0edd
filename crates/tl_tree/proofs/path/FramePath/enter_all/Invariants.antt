use Rattle.std.proofs.Common.{◌≡◌, ◌-◌, length}
use Rattle.tl_tree.specs.Inner.Entered.{entered}
use Rattle.tl_tree.proofs.path.FramePath.enter_all.Given as goal

abbrev pub invariant-loop-self : goal.invariant-loop-self
invariant-loop-self l = record {
  frames : l.self.frames.items ≡ l.fn.self.frames.items;
  store : l.self.store ≡ l.fn.self.store;
  next : l.self.next ≡ l.fn.self.next;
  gaps : l.self.gaps ≡ l.fn.self.gaps;
}

abbrev pub decreases-loop-self : goal.decreases-loop-self
decreases-loop-self l = length l.self.frames.items - length (entered l.self.scopes)
