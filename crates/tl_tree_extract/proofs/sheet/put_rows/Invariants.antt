use Rattle.std.proofs.Common.{length, ◌++◌, ◌≡◌, ◌≤◌}
use Rattle.tl_tree.specs.TreeView.{rows_in}
use Rattle.tl_tree_extract.specs.Inner.Kept.{AreKept}
use Rattle.tl_tree_extract.specs.Inner.Slots.{IsBeforeRow}
use Rattle.tl_tree_extract.specs.Sheet.{rows_written}
use Rattle.tl_tree_extract.specs.Table.{table_said}
use Rattle.tl_tree_extract.proofs.sheet.put_rows.Given as goal

abbrev pub invariant-loop-row : goal.invariant-loop-row
invariant-loop-row l =
    let written = rows_written l.format.columns l.format.spans (rows_in l.tree) (table_said l.table) l.row in
    record {
      kept : AreKept (rows_in l.tree) l.words;
      before : IsBeforeRow (table_said l.table) l.row l.slots;
      out : l.out.items ≡ l.fn.out.items ++ written;
      within : length written ≤ l.format.limit.most;
    }
