use Rattle.std.proofs.Common.{false, get_or, ℕ, ◌<◌, ◌≡◌, ◌≤◌}
use Rattle.tl_dom_spec.specs.Path.{here}
use Rattle.tl_tree.specs.Inner.Adopted.{frame_at}
use Rattle.tl_tree.proofs.path.FramePath.ancestor_over.Given as goal

abbrev pub invariant-loop-left : goal.invariant-loop-left
invariant-loop-left l = record {
  bound : l.left ≤ l.block;
  between : (n : ℕ) → l.left ≤ n → n < l.block → get_or l.self.gaps.marks.items n false ≡ false → (frame_at l.self n).place ≡ here;
}

abbrev pub decreases-loop-left : goal.decreases-loop-left
decreases-loop-left l = l.left
