use Rattle.std.proofs.Common.{◌≡◌, ◌≤◌, length}
use Rattle.tl_dom_spec.specs.Path.{elements}
use Rattle.tl_dom_spec.specs.Reset as reset
use Rattle.tl_tree.specs.Inner.Builders.{builder_of}
use Rattle.tl_tree.specs.Inner.Resets.{mode_from}
use Rattle.tl_tree.proofs.builder.Builder.mode_of_stack.Given as goal

abbrev pub invariant-loop-index : goal.invariant-loop-index
invariant-loop-index l =
    let b = builder_of l.self in
    record {
      bound : l.index ≤ length l.self.path.frames.items;
      rest : reset.mode_of b (elements b.path) ≡ mode_from l.self l.index;
    }

abbrev pub decreases-loop-index : goal.decreases-loop-index
decreases-loop-index l = l.index
