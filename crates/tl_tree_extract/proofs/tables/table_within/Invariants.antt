use Rattle.std.proofs.Common.{◌≡◌, drop}
use Rattle.tl_tree.specs.TreeView.{rows_in}
use Rattle.tl_tree_extract.specs.Inner.Open.{StandsBefore, forming_said}
use Rattle.tl_tree_extract.specs.Table.{begun, form_rows}
use Rattle.tl_tree_extract.proofs.tables.table_within.Given as goal

-- what is formed, with the rows that are left, is what is formed of all of them
abbrev pub invariant-loop-number : goal.invariant-loop-number
invariant-loop-number l =
    let rows = rows_in l.tree in
    record {
      stands : StandsBefore l.forming l.number;
      said : form_rows rows l.number (drop l.number l.row-items) (forming_said l.forming)
          ≡ form_rows rows 0 l.row-items (begun rows l.table);
    }
