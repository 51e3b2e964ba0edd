use Rattle.std.proofs.Common.{List, drop, map, ℕ, ◌++◌, ◌≡◌}
use Rattle.tl_tree.specs.TreeView.{rows_in}
use Rattle.tl_values.specs.Inner.Names.{AreKept}
use Rattle.tl_values.specs.Naming.{names_got, page_names}
use Rattle.tl_values.specs.NewValues.{got}
use Rattle.tl_values.proofs.naming.names_got.Given as goal

-- some names are used so far, and the values with those of the elements that are left are all
abbrev pub invariant-loop-number : goal.invariant-loop-number
invariant-loop-number l =
    (used : List (List ℕ)) × (AreKept l.names used)
    × (map got l.values.items ++ names_got l.key (rows_in l.tree) used (drop l.number-index l.numbers)
    ≡ names_got l.key (rows_in l.tree) (page_names l.key (rows_in l.tree)) l.numbers)
