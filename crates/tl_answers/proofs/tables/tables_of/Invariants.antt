use Rattle.std.proofs.Common.{filter, ◌++◌, ◌≡◌}
use Rattle.tl_answers.specs.Tables.{is_table_at, tables_of}
use Rattle.tl_tree.specs.TreeView.{rows_in}
use Rattle.tl_answers.proofs.tables.tables_of.Given as goal

-- those so far, and those among the elements that are left
abbrev pub invariant-loop-node : goal.invariant-loop-node
invariant-loop-node l =
    tables_of (rows_in l.tree)
    ≡ l.tables.items ++ filter (is_table_at (rows_in l.tree)) l.node-iterator
