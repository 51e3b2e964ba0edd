use Rattle.std.proofs.Common.{◌≡◌, ◌≤◌}
use Rattle.tl_tree.specs.Inner.Found.{stack_to}
use Rattle.tl_tree.proofs.path.FramePath.open_below.Given as goal

abbrev pub invariant-loop-index : goal.invariant-loop-index
invariant-loop-index l =
    record {
      bound : l.index ≤ l.count;
      same : stack_to l.self l.count ≡ stack_to l.self l.index;
    }

abbrev pub decreases-loop-index : goal.decreases-loop-index
decreases-loop-index l = l.index
