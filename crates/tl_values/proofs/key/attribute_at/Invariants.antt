use Rattle.std.proofs.Common.{◌≡◌}
use Rattle.std.specs.List.{find}
use Rattle.tl_tree.specs.Asked.{attributes_at}
use Rattle.tl_tree.specs.TreeView.{rows_in}
use Rattle.tl_values.specs.Keys.{has_key}
use Rattle.tl_values.proofs.key.attribute_at.Given as goal

-- the attribute is the first that is left
abbrev pub invariant-loop-attribute : goal.invariant-loop-attribute
invariant-loop-attribute l =
    find (has_key l.key) (attributes_at (rows_in l.tree) l.number)
    ≡ find (has_key l.key) l.attribute-iterator
