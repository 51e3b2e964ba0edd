use Rattle.std.proofs.Common.{length, ◌++◌, ◌-◌, ◌≡◌, ◌≤◌}
use Rattle.tl_html_print.specs.Inner.Lines.{laid_from, laid_rows}
use Rattle.tl_tree.specs.TreeView.{rows_in}
use Rattle.tl_html_print.proofs.pretty.walk.write_lines.Given as goal

abbrev pub invariant-loop-number : goal.invariant-loop-number
invariant-loop-number l = record {
  written : l.fn.out.items ++ laid_rows l.is_scripting (rows_in l.tree) ≡ l.out.items ++ laid_from l.is_scripting (rows_in l.tree) l.number l.spot;
  depth : l.spot.depth ≤ l.number;
}

abbrev pub decreases-loop-number : goal.decreases-loop-number
decreases-loop-number l = length (rows_in l.tree) - l.number
