use Rattle.std.proofs.Common.{false, get_or, true, ℕ, ◌<◌, ◌≡◌, ◌≤◌}
use Rattle.tl_tree.specs.Inner.Frames.{around}
use Rattle.tl_tree.proofs.path.FramePath.around.Given as goal

abbrev pub invariant-loop-left : goal.invariant-loop-left
invariant-loop-left l = record {
  bound : l.left ≤ l.index;
  gone : (n : ℕ) → l.left ≤ n → n < l.index → get_or l.self.gaps.marks.items n false ≡ true;
  rest : around l.self l.index ≡ around l.self l.left;
}

abbrev pub decreases-loop-left : goal.decreases-loop-left
decreases-loop-left l = l.left
