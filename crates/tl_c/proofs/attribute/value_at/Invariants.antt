use Rattle.std.proofs.Common.{◌≡◌}
use Rattle.tl_tree.specs.Asked.{attributes_at}
use Rattle.tl_tree.specs.TreeView.{rows_in}
use Rattle.tl_c.specs.Nodes.{value_at_key}
use Rattle.tl_c.proofs.attribute.value_at.Given as goal

abbrev pub invariant-loop-attribute : goal.invariant-loop-attribute
invariant-loop-attribute l =
    value_at_key l.key l.attribute-iterator ≡ value_at_key l.key (attributes_at (rows_in l.tree) l.node)
