use Rattle.std.proofs.Common.{◌≡◌, map, take}
use Rattle.tl_tree.specs.TreeView.{rows_in}
use Rattle.tl_values.specs.NewValues.{each_got, got, value_got}
use Rattle.tl_values.proofs.rewrite.Rewrite.each_value.Given as goal

-- the values are those of the nodes so far
abbrev pub invariant-loop-number : goal.invariant-loop-number
invariant-loop-number l =
    map got l.values.items ≡ each_got (value_got l.self l.key (rows_in l.tree)) (take l.number-index l.numbers)
