use Rattle.std.proofs.Common.{◌≡◌}
use Rattle.tl_tree.specs.TreeView.{rows_in}
use Rattle.tl_tree_extract.specs.Inner.Kept.{AreKept}
use Rattle.tl_tree_extract.specs.Inner.Sinks.{after, text_taken}
use Rattle.tl_tree_extract.specs.Inner.Slots.{IsBeforeRow}
use Rattle.tl_tree_extract.specs.SheetJson.{row_arrays}
use Rattle.tl_tree_extract.specs.Table.{table_said}
use Rattle.tl_tree_extract.proofs.sheet_json.put_rows.Given as goal

abbrev pub invariant-loop-row : goal.invariant-loop-row
invariant-loop-row l = record {
  kept : AreKept (rows_in l.tree) l.words;
  before : IsBeforeRow (table_said l.table) l.row l.slots;
  adds : text_taken l.out.out.items l.out.after_value
      ≡ after (row_arrays l.format.spans (rows_in l.tree) (table_said l.table) l.row) (text_taken l.fn.out.out.items l.fn.out.after_value);
}
