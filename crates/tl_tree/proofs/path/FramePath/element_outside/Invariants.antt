use Rattle.std.proofs.Common.{length, ◌≡◌, ◌≤◌}
use Rattle.tl_tree.specs.Inner.Adopted.{innermost_number}
use Rattle.tl_tree.proofs.path.FramePath.element_outside.Given as goal

abbrev pub invariant-loop-left : goal.invariant-loop-left
invariant-loop-left l = record {
  bound : l.left ≤ length l.self.frames.items;
  rest : innermost_number l.self l.place ≡ innermost_number l.self l.left;
}

abbrev pub decreases-loop-left : goal.decreases-loop-left
decreases-loop-left l = l.left
