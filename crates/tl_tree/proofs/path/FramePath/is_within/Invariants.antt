use Rattle.std.proofs.Common.{◌≡◌, ◌≤◌, length}
use Rattle.tl_dom_spec.specs.Path.{elements, within}
use Rattle.tl_tree.specs.Inner.Frames.{path_of, sought, test_of}
use Rattle.tl_tree.proofs.path.FramePath.is_within.Given as goal

abbrev pub invariant-loop-index : goal.invariant-loop-index
invariant-loop-index l =
    let test = test_of l.test in
    let bounds = test_of l.bounds in
    record {
      bound : l.index ≤ length l.self.frames.items;
      rest : within test bounds (elements (path_of l.self)) ≡ sought test bounds l.self l.index;
    }

abbrev pub decreases-loop-index : goal.decreases-loop-index
decreases-loop-index l = l.index
