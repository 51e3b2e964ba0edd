use Rattle.std.proofs.Common.{◌≡◌, filter}
use Rattle.tl_tree.specs.TreeView.{rows_in}
use Rattle.tl_tree_extract.specs.Named.{is_named_at}
use Rattle.tl_tree_extract.specs.Table.{children_named, column_names, with_each}
use Rattle.tl_tree_extract.proofs.table_columns.with_group.Given as goal

-- with those of the columns that are left, they are all
abbrev pub invariant-loop-child : goal.invariant-loop-child
invariant-loop-child l =
    let rows = rows_in l.tree in
    with_each rows l.wide (filter (is_named_at column_names rows) l.child-iterator)
    ≡ with_each rows l.width (children_named column_names rows l.group)
