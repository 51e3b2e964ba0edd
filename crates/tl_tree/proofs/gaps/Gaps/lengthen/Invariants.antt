use Rattle.std.proofs.Common.{false, get_or, length, max, suc, ◌-◌, ◌≡◌, ◌≤◌}
use Rattle.tl_tree.specs.Inner.Gone.{without}
use Rattle.tl_tree.proofs.gaps.Gaps.lengthen.Given as goal

abbrev pub invariant-loop-self : goal.invariant-loop-self
invariant-loop-self l = record {
  own : get_or l.self.marks.items l.place false ≡ get_or l.fn.self.marks.items l.place false;
  without : without l.place l.self.marks.items ≡ without l.place l.fn.self.marks.items;
  len : length l.self.marks.items ≤ max (length l.fn.self.marks.items) (suc l.place);
}

abbrev pub decreases-loop-self : goal.decreases-loop-self
decreases-loop-self l = suc l.place - length l.self.marks.items
