use Rattle.std.proofs.Common.{[], ◌≡◌, length}
use Rattle.tl_dom_spec.specs.Path.{popped_while}
use Rattle.tl_tree.specs.Inner.Frames.{path_of, test_or_other}
use Rattle.tl_tree.specs.Inner.Store.{Grows}
use Rattle.tl_tree.proofs.path.FramePath.settle_while.Given as goal

abbrev pub invariant-loop-self : goal.invariant-loop-self
invariant-loop-self l =
    let test = test_or_other l.is_other l.test in
    record {
      path : popped_while test (path_of l.self) ≡ popped_while test (path_of l.fn.self);
      next : l.self.next ≡ l.fn.self.next;
      whole : l.fn.self.gaps.marks.items ≡ [] → l.self.gaps.marks.items ≡ [];
      grows : Grows l.fn.self.store l.self.store;
    }

abbrev pub decreases-loop-self : goal.decreases-loop-self
decreases-loop-self l = length (path_of l.self)
