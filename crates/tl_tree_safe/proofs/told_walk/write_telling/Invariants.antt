use Rattle.std.proofs.Common.{length, map, ◌++◌, ◌-◌, ◌≡◌}
use Rattle.tl_tree.specs.TreeView.{rows_in}
use Rattle.tl_tree_safe.specs.Inner.Telling.{told, told_from}
use Rattle.tl_tree_safe.specs.Inner.Walk.{spot_of, walked, walked_from}
use Rattle.tl_tree_safe.specs.Policies.{listed_words}
use Rattle.tl_tree_safe.specs.Removed.{gone_of}
use Rattle.tl_tree_safe.proofs.told_walk.write_telling.Given as goal

abbrev pub invariant-loop-number : goal.invariant-loop-number
invariant-loop-number l =
    record {
      text : l.fn.out.items ++ walked (listed_words l.known.lists) (rows_in l.tree) ≡ l.out.items ++ walked_from (listed_words l.known.lists) (rows_in l.tree) l.number (spot_of l.writer);
      gone : map gone_of l.fn.removals.items ++ told (listed_words l.known.lists) (rows_in l.tree) ≡ map gone_of l.removals.items ++ told_from (listed_words l.known.lists) (rows_in l.tree) l.number (spot_of l.writer);
    }

abbrev pub decreases-loop-number : goal.decreases-loop-number
decreases-loop-number l = length (rows_in l.tree) - l.number
