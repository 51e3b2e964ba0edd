use Rattle.std.proofs.Common.{length, ◌+◌, ◌<◌, ◌≡◌, ◌≤◌}
use Rattle.tl_dom_spec.specs.Adoption.{cloned}
use Rattle.tl_tree.proofs.Cloned.{between}
use Rattle.tl_tree.specs.Inner.Active.{active_of}
use Rattle.tl_tree.specs.Inner.Adopted.{AreMade}
use Rattle.tl_tree.specs.Inner.Tallied.{IsTallied}
use Rattle.tl_tree.proofs.adoption.add_clones.Given as goal

abbrev pub invariant-loop-left : goal.invariant-loop-left
invariant-loop-left l =
    let p = l.fn.path in
    record {
      few : l.between.seen + l.left ≤ l.block;
      made : l.between.made ≤ l.between.seen;
      len : length p.frames.items ≤ length l.path.frames.items;
      so_far : AreMade l.block p l.path (cloned 0 (between l.number p l.block) (active_of p.store l.fn.active) p.next) (cloned l.between.seen (between l.number p l.left) (active_of l.path.store l.active) l.path.next) 0 l.between.made;
      gaps : l.path.gaps ≡ p.gaps;
      store : l.path.store ≡ p.store;
      more : p.next ≤ l.path.next;
      numbered : l.active.greatest_number < l.path.next;
      tag : l.active.greatest_tag ≡ l.fn.active.greatest_tag;
      tallied : IsTallied l.path.store l.active;
    }

abbrev pub decreases-loop-left : goal.decreases-loop-left
decreases-loop-left l = l.left
