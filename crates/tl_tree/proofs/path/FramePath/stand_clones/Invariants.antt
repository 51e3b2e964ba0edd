use Rattle.std.proofs.Common.{drop, false, get_or, length, true, ℕ, ◌+◌, ◌++◌, ◌<◌, ◌≡◌, ◌≤◌}
use Rattle.std.specs.List.{list_any}
use Rattle.tl_tree.specs.Inner.Adopted.{clones_at, frame_at}
use Rattle.tl_tree.specs.Inner.Framed.{is_numbered}
use Rattle.tl_tree.specs.Inner.Frames.{around, frames_of}
use Rattle.tl_tree.proofs.path.FramePath.stand_clones.Given as goal

abbrev pub invariant-loop-left : goal.invariant-loop-left
invariant-loop-left l =
    let p = l.fn.self in
    let edge = get_or l.clones l.left (l.place + 1) in
    record {
      bound : l.left ≤ length l.clones;
      path : around l.self edge ≡ clones_at (frames_of p) (l.first + l.left) (drop l.left l.clones) ++ around p (l.place + 1);
      gone : (n : ℕ) → edge ≤ n → n < l.block → get_or l.self.gaps.marks.items n false ≡ true;
      same : (n : ℕ) → edge ≤ n → frame_at l.self n ≡ frame_at p n;
      marks : drop l.block l.self.gaps.marks.items ≡ drop l.block p.gaps.marks.items;
      behind : drop l.block (frames_of l.self) ≡ drop l.block (frames_of p);
      len : length l.self.frames.items ≡ length p.frames.items;
      next : l.self.next ≡ p.next;
      store : l.self.store ≡ p.store;
      free : (n : ℕ) → l.first ≤ n → n < l.first + l.left → list_any (is_numbered n) l.self.frames.items ≡ false;
    }

abbrev pub decreases-loop-left : goal.decreases-loop-left
decreases-loop-left l = l.left
