use Rattle.tl_tree.specs.TreeView.{rows_in}
use Rattle.tl_values.specs.Inner.Names.{AreKept}
use Rattle.tl_values.specs.Naming.{names_before}
use Rattle.tl_values.proofs.naming.page_names.Given as goal

-- those of the rows so far are kept
abbrev pub invariant-loop-number : goal.invariant-loop-number
invariant-loop-number l = AreKept l.names (names_before l.key (rows_in l.tree) l.number)
