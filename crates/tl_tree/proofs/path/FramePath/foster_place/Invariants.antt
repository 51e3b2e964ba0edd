use Rattle.std.proofs.Common.{◌≡◌, ◌≤◌, length}
use Rattle.tl_dom_spec.specs.Path as dom
use Rattle.tl_tree.specs.Inner.Frames.{fostered, path_of}
use Rattle.tl_tree.proofs.path.FramePath.foster_place.Given as goal

abbrev pub invariant-loop-index : goal.invariant-loop-index
invariant-loop-index l =
    record {
      bound : l.index ≤ length l.self.frames.items;
      rest : dom.foster_place (path_of l.self) ≡ fostered l.self l.index;
    }

abbrev pub decreases-loop-index : goal.decreases-loop-index
decreases-loop-index l = l.index
