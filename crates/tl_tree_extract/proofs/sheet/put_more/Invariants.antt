use Rattle.std.proofs.Common.{◌++◌, ◌≡◌}
use Rattle.tl_tree.specs.TreeView.{rows_in}
use Rattle.tl_tree_extract.specs.Inner.Kept.{AreKept}
use Rattle.tl_tree_extract.specs.Sheet.{more_slots}
use Rattle.tl_tree_extract.specs.Table.{table_said}
use Rattle.tl_tree_extract.proofs.sheet.put_more.Given as goal

abbrev pub invariant-loop-last : goal.invariant-loop-last
invariant-loop-last l = record {
  kept : AreKept (rows_in l.tree) l.words;
  out : l.out.items ≡ l.fn.out.items ++ more_slots l.format.columns l.format.spans (rows_in l.tree) (table_said l.table) l.row l.last;
}
