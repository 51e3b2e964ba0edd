use Rattle.std.proofs.Common.{drop, ◌++◌, ◌≡◌}
use Rattle.tl_tree.specs.TreeView.{rows_in}
use Rattle.tl_tree_extract.specs.Fields.{more_columns}
use Rattle.tl_tree_extract.proofs.fields.put_more.Given as goal

-- what was written, and then the columns that are left, are all
abbrev pub invariant-loop-field : goal.invariant-loop-field
invariant-loop-field l =
    l.out.items ++ more_columns l.columns (rows_in l.tree) l.number (drop l.field-index l.fields)
    ≡ l.fn.out.items ++ more_columns l.columns (rows_in l.tree) l.number l.fields
