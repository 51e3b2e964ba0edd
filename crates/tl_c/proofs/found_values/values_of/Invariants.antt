use Rattle.std.proofs.Common.{take, ◌≡◌}
use Rattle.tl_tree.specs.TreeView.{rows_in}
use Rattle.tl_c.specs.FoundValues.{value_parts}
use Rattle.tl_c.proofs.found_values.values_of.Given as goal

-- the values are those of the nodes so far
abbrev pub invariant-loop-node : goal.invariant-loop-node
invariant-loop-node l =
    l.values.items ≡ value_parts l.key (rows_in l.tree) (take l.node-index l.nodes)
