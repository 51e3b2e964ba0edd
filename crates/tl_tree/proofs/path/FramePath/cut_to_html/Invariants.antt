use Rattle.std.proofs.Common.{◌≡◌, length}
use Rattle.tl_dom_spec.specs.Body.{from_html}
use Rattle.tl_tree.specs.Inner.Frames.{path_of}
use Rattle.tl_tree.proofs.path.FramePath.cut_to_html.Given as goal

abbrev pub invariant-loop-self : goal.invariant-loop-self
invariant-loop-self l =
    record {
      path : from_html (path_of l.self) ≡ from_html (path_of l.fn.self);
      store : l.self.store ≡ l.fn.self.store;
      next : l.self.next ≡ l.fn.self.next;
    }

abbrev pub decreases-loop-self : goal.decreases-loop-self
decreases-loop-self l = length l.self.frames.items
