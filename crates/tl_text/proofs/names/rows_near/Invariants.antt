use Rattle.std.proofs.Common.{◌≡◌, ◌≤◌, true, length}
use Rattle.tl_html_spec.specs.References.{first_row, rows}
use Rattle.tl_text.specs.Inner.Order.{are_in_order}
use Rattle.tl_text.proofs.names.rows_near.Given as goal

abbrev pub invariant-loop-width : goal.invariant-loop-width
invariant-loop-width l = record {
  row : first_row (rows l.left) l.bytes ≡ first_row (rows l.table) l.bytes;
  order : are_in_order (rows l.left) ≡ true;
  width : l.width ≤ length l.left;
  within : length l.left ≤ length l.table;
}

abbrev pub decreases-loop-width : goal.decreases-loop-width
decreases-loop-width l = l.width
