use Rattle.std.proofs.Common.{map, ◌++◌, ◌≡◌}
use Rattle.tl_tree.specs.Asked.{attributes_at}
use Rattle.tl_tree.specs.TreeView.{rows_in}
use Rattle.tl_tree_safe.specs.Policies.{listed_words}
use Rattle.tl_tree_safe.specs.Removed.{attributes_gone, gone_of}
use Rattle.tl_tree_safe.proofs.telling.tell_attributes.Given as goal

abbrev pub invariant-loop-attribute : goal.invariant-loop-attribute
invariant-loop-attribute l =
    map gone_of l.fn.told.items ++ attributes_gone (listed_words l.lists) l.number (attributes_at (rows_in l.tree) l.number)
    ≡ map gone_of l.told.items ++ attributes_gone (listed_words l.lists) l.number l.attribute-iterator
