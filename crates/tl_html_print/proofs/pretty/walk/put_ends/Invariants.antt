use Rattle.std.proofs.Common.{◌++◌, ◌≡◌}
use Rattle.tl_html_print.specs.Inner.Lines.{closed_lines, closed_spot}
use Rattle.tl_tree.specs.Asked.{ancestors_at}
use Rattle.tl_tree.specs.TreeView.{rows_in}
use Rattle.tl_html_print.proofs.pretty.walk.put_ends.Given as goal

abbrev pub invariant-loop-outer : goal.invariant-loop-outer
invariant-loop-outer l = record {
  written : l.fn.out.items ++ closed_lines (rows_in l.tree) l.next l.fn.spot (ancestors_at (rows_in l.tree) l.number) ≡ l.out.items ++ closed_lines (rows_in l.tree) l.next l.now l.outer-iterator;
  place : closed_spot (rows_in l.tree) l.next l.fn.spot (ancestors_at (rows_in l.tree) l.number) ≡ closed_spot (rows_in l.tree) l.next l.now l.outer-iterator;
}
