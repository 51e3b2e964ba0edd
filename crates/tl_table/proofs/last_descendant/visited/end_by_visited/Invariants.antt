use Rattle.std.proofs.Common.{◌≡◌, ℕ, List, [], Some, map, length}
use Rattle.tl_spec.specs.Walk.Range.{end_below}
use Rattle.tl_table.proofs.Way.{AreMarks, unmarked}
use Rattle.tl_table.proofs.last_descendant.visited.end_by_visited.Given as goal

abbrev pub invariant-loop-node : goal.invariant-loop-node
invariant-loop-node g l =
    let nodes = map g.N.Element.node l.nodes in
    (path : List ℕ) × AreMarks (length l.nodes) path l.marks × (end_below nodes path (Some l.handle) ≡ end_below nodes [] (Some l.fn.first))

abbrev pub decreases-loop-node : goal.decreases-loop-node
decreases-loop-node g l = unmarked l.marks
