use Rattle.std.proofs.Common.{length, ◌++◌, ◌-◌, ◌≡◌}
use Rattle.tl_tree.specs.TreeView.{rows_in}
use Rattle.tl_tree_safe.specs.Inner.Walk.{spot_of, walked, walked_from}
use Rattle.tl_tree_safe.specs.Policies.{listed_words}
use Rattle.tl_tree_safe.proofs.walk.write_walked.Given as goal

abbrev pub invariant-loop-number : goal.invariant-loop-number
invariant-loop-number l =
    l.fn.out.items ++ walked (listed_words l.known.lists) (rows_in l.tree) ≡ l.out.items ++ walked_from (listed_words l.known.lists) (rows_in l.tree) l.number (spot_of l.writer)

abbrev pub decreases-loop-number : goal.decreases-loop-number
decreases-loop-number l = length (rows_in l.tree) - l.number
