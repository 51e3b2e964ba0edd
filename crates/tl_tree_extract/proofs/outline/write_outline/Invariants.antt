use Rattle.std.proofs.Common.{take, ◌++◌, ◌≡◌}
use Rattle.std.specs.Prelude.{flat_map}
use Rattle.tl_tree.specs.TreeView.{rows_in}
use Rattle.tl_tree_extract.specs.Outline.{heading_line}
use Rattle.tl_tree_extract.proofs.outline.write_outline.Given as goal

abbrev pub invariant-loop-heading : goal.invariant-loop-heading
invariant-loop-heading l = l.out.items ≡ l.fn.out.items ++ flat_map (heading_line (rows_in l.tree)) (take l.heading-index l.heading-items)
