use Rattle.std.proofs.Common.{◌≡◌, ◌<◌, ◌∷◌, length}
use Rattle.tl_dom_spec.specs.Dispatcher.{found_in}
use Rattle.tl_dom_spec.specs.Path.{elements}
use Rattle.tl_tree.specs.Inner.Found.{framed, stack_to}
use Rattle.tl_tree.specs.Inner.Frames.{path_of}
use Rattle.tl_tree.proofs.path.FramePath.found.Given as goal

abbrev pub invariant-loop-outer : goal.invariant-loop-outer
invariant-loop-outer l =
    record {
      bound : l.inner < length l.self.frames.items;
      same : found_in l.name (elements (path_of l.self)) ≡ found_in l.name (framed l.self l.inner ∷ stack_to l.self l.inner);
    }

abbrev pub decreases-loop-outer : goal.decreases-loop-outer
decreases-loop-outer l = l.inner
