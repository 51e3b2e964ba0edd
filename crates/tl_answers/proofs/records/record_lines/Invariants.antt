use Rattle.std.proofs.Common.{flat_map, take, ◌≡◌}
use Rattle.tl_answers.specs.Records.{record_line}
use Rattle.tl_tree.specs.TreeView.{rows_in}
use Rattle.tl_answers.proofs.records.record_lines.Given as goal

-- the lines are those of the nodes so far
abbrev pub invariant-loop-number : goal.invariant-loop-number
invariant-loop-number l =
    l.lines.items ≡ flat_map (record_line l.own (rows_in l.tree)) (take l.number-index l.numbers)
