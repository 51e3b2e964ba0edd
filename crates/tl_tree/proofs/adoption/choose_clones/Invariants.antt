use Rattle.std.proofs.Common.{length, ◌+◌, ◌<◌, ◌≡◌, ◌≤◌}
use Rattle.tl_dom_spec.specs.Adoption.{cloned}
use Rattle.tl_tree.specs.Inner.Active.{active_of}
use Rattle.tl_tree.specs.Inner.Adopted.{AreInward, after_clones, clones_at, elements_between, frame_at}
use Rattle.tl_tree.specs.Inner.Frames.{frames_of}
use Rattle.tl_tree.specs.Inner.Tallied.{IsTallied}
use Rattle.tl_tree.proofs.adoption.choose_clones.Given as goal

abbrev pub invariant-loop-left : goal.invariant-loop-left
invariant-loop-left l =
    let p = l.fn.path in
    let k = (frame_at p (l.place + 1)).number in
    record {
      least : l.place + 2 ≤ l.left;
      most : l.left ≤ l.block;
      few : l.seen + l.left ≤ l.block;
      chosen : cloned 0 (elements_between k p l.block) (active_of p.store l.fn.active) p.next ≡ after_clones (clones_at (frames_of p) p.next l.clones.items) (cloned l.seen (elements_between k p l.left) (active_of l.path.store l.active) l.path.next);
      inward : AreInward l.left l.block l.clones.items;
      count : l.path.next ≡ p.next + length l.clones.items;
      frames : l.path.frames.items ≡ p.frames.items;
      gaps : l.path.gaps ≡ p.gaps;
      store : l.path.store ≡ p.store;
      numbered : l.active.greatest_number < l.path.next;
      tag : l.active.greatest_tag ≡ l.fn.active.greatest_tag;
      tallied : IsTallied l.path.store l.active;
    }

abbrev pub decreases-loop-left : goal.decreases-loop-left
decreases-loop-left l = l.left
