use Rattle.std.proofs.Common.{◌≡◌}
use Rattle.tl_tree.specs.TreeView.{rows_in}
use Rattle.tl_c.specs.Whole.{parts_before}
use Rattle.tl_c.proofs.whole.parts_of.Given as goal

abbrev pub invariant-loop-node : goal.invariant-loop-node
invariant-loop-node l = l.parts.items ≡ parts_before (rows_in l.tree) l.node
