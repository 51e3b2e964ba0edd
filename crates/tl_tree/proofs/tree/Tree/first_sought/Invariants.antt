use Rattle.std.proofs.Common.{◌-◌, ◌≡◌}
use Rattle.tl_tree.specs.Below.{sought_up_to}
use Rattle.tl_tree.specs.TreeView.{rows_in}
use Rattle.tl_tree.proofs.tree.Tree.first_sought.Given as goal

abbrev pub invariant-loop-number : goal.invariant-loop-number
invariant-loop-number l =
    sought_up_to l.is_text (rows_in l.self) l.next l.end ≡ sought_up_to l.is_text (rows_in l.self) l.number l.end

abbrev pub decreases-loop-number : goal.decreases-loop-number
decreases-loop-number l = l.end - l.number
