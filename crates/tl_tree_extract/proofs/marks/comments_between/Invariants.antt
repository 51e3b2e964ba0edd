use Rattle.std.proofs.Common.{◌≡◌}
use Rattle.tl_tree.specs.TreeView.{rows_in}
use Rattle.tl_tree_extract.specs.Marks.{comments_between}
use Rattle.tl_tree_extract.proofs.marks.comments_between.Given as goal

abbrev pub invariant-loop-number : goal.invariant-loop-number
invariant-loop-number l = l.found.items ≡ comments_between (rows_in l.tree) l.first l.number
