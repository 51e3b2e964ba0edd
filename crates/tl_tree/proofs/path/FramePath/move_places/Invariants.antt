use Rattle.std.proofs.Common.{drop, length, map, take, ◌++◌, ◌-◌, ◌≡◌}
use Rattle.tl_tree.specs.Inner.Adopted.{moved}
use Rattle.tl_tree.specs.Inner.Frames.{frames_of}
use Rattle.tl_tree.proofs.path.FramePath.move_places.Given as goal

abbrev pub invariant-loop-self : goal.invariant-loop-self
invariant-loop-self l =
    let change = moved l.block l.new in
    record {
      len : length l.self.frames.items ≡ length l.fn.self.frames.items;
      rest : take l.index (frames_of l.self) ++ map change (drop l.index (frames_of l.self)) ≡ take l.start (frames_of l.fn.self) ++ map change (drop l.start (frames_of l.fn.self));
      next : l.self.next ≡ l.fn.self.next;
      gaps : l.self.gaps ≡ l.fn.self.gaps;
      store : l.self.store ≡ l.fn.self.store;
    }

abbrev pub decreases-loop-self : goal.decreases-loop-self
decreases-loop-self l = length l.self.frames.items - l.index
