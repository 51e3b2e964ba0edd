use Rattle.std.proofs.Common.{◌≡◌}
use Rattle.tl_tree.specs.TreeView.{rows_in}
use Rattle.tl_tree_extract.specs.Inner.Kept.{AreKept}
use Rattle.tl_tree_extract.specs.Inner.Sinks.{after, text_taken}
use Rattle.tl_tree_extract.specs.SheetJson.{slot_strings}
use Rattle.tl_tree_extract.specs.Table.{table_said}
use Rattle.tl_tree_extract.proofs.sheet_json.put_slots.Given as goal

abbrev pub invariant-loop-column : goal.invariant-loop-column
invariant-loop-column l = record {
  kept : AreKept (rows_in l.tree) l.words;
  adds : text_taken l.out.out.items l.out.after_value
      ≡ after (slot_strings l.format.spans (rows_in l.tree) (table_said l.table) l.row l.column) (text_taken l.fn.out.out.items l.fn.out.after_value);
}
