use Rattle.std.proofs.Common.{length, take, ◌≡◌}
use Rattle.tl_tree.specs.Inner.Tallied.{IsTallied}
use Rattle.tl_tree.proofs.active.ActiveList.clear_to_last_marker.Given as goal

abbrev pub invariant-loop-self : goal.invariant-loop-self
invariant-loop-self l = record {
  front : take l.count l.self.entries.items ≡ take l.count l.fn.self.entries.items;
  number : l.self.greatest_number ≡ l.fn.self.greatest_number;
  tag : l.self.greatest_tag ≡ l.fn.self.greatest_tag;
  tallied : IsTallied l.path.store l.fn.self → IsTallied l.path.store l.self;
}

abbrev pub decreases-loop-self : goal.decreases-loop-self
decreases-loop-self l = length l.self.entries.items
