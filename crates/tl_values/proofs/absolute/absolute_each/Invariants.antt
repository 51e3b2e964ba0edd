use Rattle.std.proofs.Common.{◌≡◌, map, take}
use Rattle.tl_tree.specs.TreeView.{rows_in}
use Rattle.tl_values.specs.NewValues.{absolute_got, each_got, got}
use Rattle.tl_values.proofs.absolute.absolute_each.Given as goal

-- the values are those of the nodes so far
abbrev pub invariant-loop-number : goal.invariant-loop-number
invariant-loop-number l =
    map got l.values.items ≡ each_got (absolute_got l.base l.key (rows_in l.tree)) (take l.number-index l.numbers)
