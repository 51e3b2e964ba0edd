use Rattle.std.proofs.Common.{◌≡◌}
use Rattle.tl_answers.specs.Inner.Within.{withins_before}
use Rattle.tl_tree.specs.TreeView.{rows_in}
use Rattle.tl_answers.proofs.left_out.spread.Given as goal

abbrev pub invariant-loop-number : goal.invariant-loop-number
invariant-loop-number l = l.all.items ≡ withins_before l.marks (rows_in l.tree) l.number
