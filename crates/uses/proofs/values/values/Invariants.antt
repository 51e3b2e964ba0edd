use Rattle.std.proofs.Common.{flat_map, take, ◌≡◌}
use Rattle.tl_tree.specs.TreeView.{rows_in}
use Rattle.uses.specs.Values.{value_line}
use Rattle.uses.proofs.values.values.Given as goal

-- the lines are those of the elements so far
abbrev pub invariant-loop-number : goal.invariant-loop-number
invariant-loop-number l =
    l.lines.items ≡ flat_map (value_line l.key (rows_in l.tree)) (take l.number-index l.number-items)
