use Rattle.std.proofs.Common.{◌≡◌}
use Rattle.tl_tree.specs.Asked.{children_at}
use Rattle.tl_tree.specs.TreeView.{rows_in}
use Rattle.tl_tree_extract.specs.Table.{with_groups}
use Rattle.tl_tree_extract.proofs.table_columns.first_width.Given as goal

-- with those of the groups that are left, they are all
abbrev pub invariant-loop-child : goal.invariant-loop-child
invariant-loop-child l =
    let rows = rows_in l.tree in
    with_groups rows l.width l.child-iterator ≡ with_groups rows 0 (children_at rows l.table)
