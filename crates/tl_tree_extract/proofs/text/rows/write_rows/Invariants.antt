use Rattle.std.proofs.Common.{◌++◌, ◌-◌, ◌≡◌}
use Rattle.tl_tree.specs.TreeView.{rows_in}
use Rattle.tl_tree_extract.specs.Flowing.{written}
use Rattle.tl_tree_extract.specs.Readable.{items_from, readable}
use Rattle.tl_tree_extract.proofs.text.rows.write_rows.Given as goal

abbrev pub invariant-loop-number : goal.invariant-loop-number
invariant-loop-number l =
    l.fn.out.items ++ readable l.left_out (rows_in l.tree) l.first l.last l.kept_first ≡ l.out.items ++ written l.flow (items_from l.left_out (rows_in l.tree) l.first l.last l.kept_end l.number)

abbrev pub decreases-loop-number : goal.decreases-loop-number
decreases-loop-number l = l.last - l.number
