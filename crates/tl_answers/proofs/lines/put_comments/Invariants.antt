use Rattle.std.proofs.Common.{take, ◌++◌, ◌≡◌}
use Rattle.tl_answers.specs.Lines.{comment_lines}
use Rattle.tl_tree.specs.TreeView.{rows_in}
use Rattle.tl_answers.proofs.lines.put_comments.Given as goal

-- the comments so far are written
abbrev pub invariant-loop-number : goal.invariant-loop-number
invariant-loop-number l =
    l.out.items ≡ l.initial.out.items ++ comment_lines l.end (rows_in l.tree) (take l.number-index l.comments)
