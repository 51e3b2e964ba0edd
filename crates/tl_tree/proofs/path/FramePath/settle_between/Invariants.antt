use Rattle.std.proofs.Common.{Some, drop, false, get_or, length, true, ℕ, ◌+◌, ◌<◌, ◌≡◌, ◌≤◌}
use Rattle.tl_dom_spec.specs.Path.{here, popped_while}
use Rattle.tl_tree.specs.Inner.Adopted.{frame_at, is_inside, numbers_in, shape, tags_in}
use Rattle.tl_tree.specs.Inner.Frames.{around, frames_of}
use Rattle.tl_tree.specs.Inner.Store.{Grows}
use Rattle.tl_tree.proofs.path.FramePath.settle_between.Given as goal

abbrev pub invariant-loop-left : goal.invariant-loop-left
invariant-loop-left l =
    let p = l.fn.self in
    let test = is_inside (Some (frame_at p l.place).number) in
    record {
      least : l.place + 1 ≤ l.left;
      most : l.left ≤ l.block;
      rest : popped_while test (around l.self l.left) ≡ popped_while test (around p l.block);
      gone : (n : ℕ) → l.left ≤ n → n < l.block → get_or l.self.gaps.marks.items n false ≡ true;
      here : (n : ℕ) → l.place < n → n < l.left → get_or l.self.gaps.marks.items n false ≡ false → (frame_at l.self n).place ≡ here;
      marks : drop l.block l.self.gaps.marks.items ≡ drop l.block p.gaps.marks.items;
      behind : drop l.block (frames_of l.self) ≡ drop l.block (frames_of p);
      shape : shape (frame_at l.self l.place) ≡ shape (frame_at p l.place);
      numbers : numbers_in l.self ≡ numbers_in p;
      tags : tags_in l.self ≡ tags_in p;
      len : length l.self.frames.items ≡ length p.frames.items;
      next : l.self.next ≡ p.next;
      grows : Grows p.store l.self.store;
    }

abbrev pub decreases-loop-left : goal.decreases-loop-left
decreases-loop-left l = l.left
