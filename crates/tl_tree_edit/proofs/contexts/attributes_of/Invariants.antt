use Rattle.std.proofs.Common.{map, ◌++◌, ◌≡◌}
use Rattle.tl_tree.specs.Asked.{attributes_at}
use Rattle.tl_tree.specs.Contexts.{attribute_in}
use Rattle.tl_tree.specs.TreeView.{rows_in}
use Rattle.tl_tree_edit.specs.Operations.{without_space}
use Rattle.tl_tree_edit.proofs.contexts.attributes_of.Given as goal

-- those so far, and those that are left
abbrev pub invariant-loop-attribute : goal.invariant-loop-attribute
invariant-loop-attribute l =
    map attribute_in l.own.items ++ map without_space l.attribute-iterator
    ≡ map without_space (attributes_at (rows_in l.tree) l.number)
