use Rattle.std.proofs.Common.{◌++◌, ◌≡◌}
use Rattle.tl_tree.specs.TreeView.{rows_in}
use Rattle.tl_tree_extract.specs.Inner.Depths.{depths_before}
use Rattle.tl_tree_extract.specs.NodeOutline.{lines_before}
use Rattle.tl_tree_extract.proofs.node_outline.write_node_outline.Given as goal

abbrev pub invariant-loop-number : goal.invariant-loop-number
invariant-loop-number l = record {
  depths : l.depths.items ≡ depths_before (rows_in l.tree) l.number;
  out : l.out.items ≡ l.fn.out.items ++ lines_before l.has_numbers (rows_in l.tree) l.number;
}
