use Rattle.std.proofs.Common.{◌≡◌, ◌++◌, Some, filter, map}
use Rattle.tl_tree.specs.TreeView.{rows_in}
use Rattle.tl_tree_extract.specs.Named.{is_named_at}
use Rattle.tl_tree_extract.specs.Table.{group_steps, row_names}
use Rattle.tl_tree_extract.proofs.tables.push_group.Given as goal

-- what was added, and then the rows that are left, are all
abbrev pub invariant-loop-child : goal.invariant-loop-child
invariant-loop-child l =
    l.steps.items ++ map (λ row. Some row) (filter (is_named_at row_names (rows_in l.tree)) l.child-iterator)
    ≡ l.initial.steps.items ++ group_steps (rows_in l.tree) l.group
