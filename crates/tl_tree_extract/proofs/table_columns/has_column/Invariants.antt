use Rattle.std.proofs.Common.{◌≡◌}
use Rattle.std.specs.List.{list_any}
use Rattle.tl_tree.specs.Asked.{children_at}
use Rattle.tl_tree.specs.TreeView.{rows_in}
use Rattle.tl_tree_extract.specs.Named.{is_named_at}
use Rattle.tl_tree_extract.specs.Table.{column_names}
use Rattle.tl_tree_extract.proofs.table_columns.has_column.Given as goal

-- there is one if there is one among the children that are left
abbrev pub invariant-loop-child : goal.invariant-loop-child
invariant-loop-child l =
    let rows = rows_in l.tree in
    list_any (is_named_at column_names rows) l.child-iterator
    ≡ list_any (is_named_at column_names rows) (children_at rows l.group)
