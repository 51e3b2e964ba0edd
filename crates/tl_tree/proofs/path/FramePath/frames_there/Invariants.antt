use Rattle.std.proofs.Common.{take, ◌≡◌}
use Rattle.tl_tree.specs.Inner.Gone.{there}
use Rattle.tl_tree.proofs.path.FramePath.frames_there.Given as goal

abbrev pub invariant-loop-index : goal.invariant-loop-index
invariant-loop-index l =
    l.kept.items ≡ there l.self.gaps.marks.items (take l.index l.self.frames.items)
