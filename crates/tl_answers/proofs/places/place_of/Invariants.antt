use Rattle.std.proofs.Common.{length, ◌-◌, ◌≡◌}
use Rattle.tl_answers.specs.Places.{place_from}
use Rattle.tl_tree.specs.Sources.{source_at}
use Rattle.tl_tree.specs.TreeView.{rows_in}
use Rattle.tl_answers.proofs.places.place_of.Given as goal

-- it is that of the nodes that are left
abbrev pub invariant-loop-node : goal.invariant-loop-node
invariant-loop-node l =
    place_from (source_at l.tree) l.size (length (rows_in l.tree) - l.fn.number) l.fn.number
    ≡ place_from (source_at l.tree) l.size (length (rows_in l.tree) - l.node) l.node
