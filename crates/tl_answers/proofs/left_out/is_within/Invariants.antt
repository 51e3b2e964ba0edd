use Rattle.std.proofs.Common.{◌≡◌}
use Rattle.std.specs.List.{list_any}
use Rattle.tl_answers.specs.LeftOut.{is_within}
use Rattle.tl_tree.specs.TreeView.{rows_in}
use Rattle.tl_tree_extract.specs.Boxes.{is_left_out}
use Rattle.tl_answers.proofs.left_out.is_within.Given as goal

-- one that the node is in has a mark if one of those that are left has
abbrev pub invariant-loop-outer : goal.invariant-loop-outer
invariant-loop-outer l =
    is_within l.marks (rows_in l.tree) l.number ≡ list_any (is_left_out l.marks) l.outer-iterator
