use Rattle.std.proofs.Common.{List, length, take, ◌<◌, ◌≡◌, ◌≤◌}
use Rattle.tl_dom_spec.specs.Path as dom
use Rattle.tl_tree.specs.Inner.Gone.{there}
use Rattle.tl_tree.proofs.gaps.Gaps.cut_gone.Given as goal

abbrev pub invariant-loop-left : goal.invariant-loop-left
invariant-loop-left l = record {
  some : 0 < l.left;
  within : l.left ≤ l.len;
  least : length l.self.marks.items ≤ l.left;
  marks : l.self.marks.items ≡ take (length l.self.marks.items) l.fn.self.marks.items;
  there : (frames : List dom.Frame) → length frames ≡ l.len → there l.fn.self.marks.items frames ≡ there l.self.marks.items (take l.left frames);
}

abbrev pub decreases-loop-left : goal.decreases-loop-left
decreases-loop-left l = length l.self.marks.items
