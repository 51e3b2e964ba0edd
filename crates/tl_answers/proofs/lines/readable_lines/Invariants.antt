use Rattle.std.proofs.Common.{flat_map, take, ◌≡◌}
use Rattle.tl_answers.specs.LeftOut.{readable_inside}
use Rattle.tl_answers.specs.Lines.{line_ended}
use Rattle.tl_tree.specs.TreeView.{rows_in}
use Rattle.tl_answers.proofs.lines.readable_lines.Given as goal

-- the lines are those of the nodes so far
abbrev pub invariant-loop-number : goal.invariant-loop-number
invariant-loop-number l =
    l.lines.items
    ≡ flat_map (λ n. line_ended (readable_inside l.left_out (rows_in l.tree) n)) (take l.number-index l.numbers)
