use Rattle.std.proofs.Common.{◌≡◌, ◌≤◌, length, take}
use Rattle.tl_dom_spec.specs.Formatting.{listed}
use Rattle.tl_tree.specs.Inner.Active.{seen}
use Rattle.tl_tree.proofs.active.ActiveList.listed.Given as goal

abbrev pub invariant-loop-left : goal.invariant-loop-left
invariant-loop-left l = record {
  within : l.left ≤ length l.self.entries.items;
  same : listed l.name (seen l.store l.self.entries.items) ≡ listed l.name (seen l.store (take l.left l.self.entries.items));
}

abbrev pub decreases-loop-left : goal.decreases-loop-left
decreases-loop-left l = l.left
