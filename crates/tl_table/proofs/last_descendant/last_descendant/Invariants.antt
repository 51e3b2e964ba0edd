use Rattle.std.proofs.Common.{◌≡◌, ℕ, ◌-◌, List, [], Some, map, length}
use Rattle.tl_spec.specs.Walk.Range.{end_below}
use Rattle.tl_table.specs.Inner.Way.{after_steps}
use Rattle.tl_table.proofs.Way.{AreBelow}
use Rattle.tl_table.proofs.last_descendant.last_descendant.Given as goal

abbrev pub invariant-loop-node : goal.invariant-loop-node
invariant-loop-node g l =
    let nodes = map g.N.Element.node l.nodes in
    record {
      steps : (n : ℕ) × (after_steps nodes (Some l.fn.first) n ≡ Some l.handle);
      way : (path : List ℕ) × AreBelow l.handle path × (end_below nodes path (Some l.handle) ≡ end_below nodes [] (Some l.fn.first));
    }

abbrev pub decreases-loop-node : goal.decreases-loop-node
decreases-loop-node g l = length l.nodes - l.handle
