use Rattle.std.proofs.Common.{◌≡◌, ◌≤◌, true, length}
use Rattle.tl_html_spec.specs.References.{first_row, rows}
use Rattle.tl_text.specs.Inner.Order.{are_in_order}
use Rattle.tl_text.proofs.names.first_row.Given as goal

abbrev pub invariant-loop-fits : goal.invariant-loop-fits
invariant-loop-fits l = record {
  row : first_row (rows l.table) l.bytes ≡ first_row (rows l.left) l.fits;
  order : are_in_order (rows l.left) ≡ true;
  fits : length l.fits ≤ length l.bytes;
}

abbrev pub decreases-loop-fits : goal.decreases-loop-fits
decreases-loop-fits l = length l.left
