use Rattle.std.proofs.Common.{◌++◌, ◌≡◌}
use Rattle.tl_html_print.specs.Inner.Printed.{closed}
use Rattle.tl_tree.specs.Asked.{ancestors_at}
use Rattle.tl_tree.specs.TreeView.{rows_in}
use Rattle.tl_html_print.proofs.rows.write_ends.Given as goal

abbrev pub invariant-loop-outer : goal.invariant-loop-outer
invariant-loop-outer l =
    l.fn.out.items ++ closed (rows_in l.tree) l.first l.next (ancestors_at (rows_in l.tree) l.number) ≡ l.out.items ++ closed (rows_in l.tree) l.first l.next l.outer-iterator
