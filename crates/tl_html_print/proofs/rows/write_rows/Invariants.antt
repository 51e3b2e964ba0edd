use Rattle.std.proofs.Common.{◌++◌, ◌-◌, ◌≡◌, ◌≤◌}
use Rattle.tl_html_print.specs.Inner.Printed.{printed, printed_from}
use Rattle.tl_tree.specs.TreeView.{rows_in}
use Rattle.tl_html_print.proofs.rows.write_rows.Given as goal

abbrev pub invariant-loop-number : goal.invariant-loop-number
invariant-loop-number l = record {
  begun : l.first ≤ l.number;
  written : l.fn.out.items ++ printed l.is_scripting (rows_in l.tree) l.first l.end ≡ l.out.items ++ printed_from l.is_scripting (rows_in l.tree) l.first l.end l.number;
}

abbrev pub decreases-loop-number : goal.decreases-loop-number
decreases-loop-number l = l.end - l.number
