use Rattle.std.proofs.Common.{take, ◌≡◌}
use Rattle.tl_answers.specs.Lines.{comments_inside}
use Rattle.tl_tree.specs.TreeView.{rows_in}
use Rattle.tl_answers.proofs.lines.comments_inside.Given as goal

-- the comments below the nodes so far are written
abbrev pub invariant-loop-number : goal.invariant-loop-number
invariant-loop-number l =
    l.lines.items ≡ comments_inside l.end (rows_in l.tree) (take l.number-index l.numbers)
