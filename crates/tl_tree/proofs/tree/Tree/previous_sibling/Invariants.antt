use Rattle.std.proofs.Common.{◌≡◌}
use Rattle.tl_tree.specs.Asked.{ancestors_at}
use Rattle.tl_tree.specs.Below.{last_ended}
use Rattle.tl_tree.specs.TreeView.{rows_in}
use Rattle.tl_tree.proofs.tree.Tree.previous_sibling.Given as goal

abbrev pub invariant-loop-outer : goal.invariant-loop-outer
invariant-loop-outer l =
    last_ended (rows_in l.self) l.number l.last (ancestors_at (rows_in l.self) l.last) ≡ last_ended (rows_in l.self) l.number l.found l.outer-iterator
