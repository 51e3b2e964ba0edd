use Rattle.std.proofs.Common.{◌++◌, ◌≡◌}
use Rattle.std.specs.Prelude.{flat_map}
use Rattle.tl_tree.specs.Asked.{attributes_at}
use Rattle.tl_tree.specs.TreeView.{rows_in}
use Rattle.tl_c.specs.Whole.{attribute_part}
use Rattle.tl_c.proofs.whole.write_attributes.Given as goal

abbrev pub invariant-loop-attribute : goal.invariant-loop-attribute
invariant-loop-attribute l =
    l.fn.out.items ++ flat_map attribute_part (attributes_at (rows_in l.tree) l.node) ≡ l.out.items ++ flat_map attribute_part l.attribute-iterator
