use Rattle.std.proofs.Common.{◌≡◌, drop}
use Rattle.tl_tree.specs.Asked.{value_of}
use Rattle.tl_tree.specs.Inner.Said.{attributes_in}
use Rattle.tl_tree.proofs.tree.Tree.value.Given as goal

abbrev pub invariant-loop-entry : goal.invariant-loop-entry
invariant-loop-entry l =
    value_of l.key (attributes_in l.self.store l.entry-items)
    ≡ value_of l.key (attributes_in l.self.store (drop l.entry-index l.entry-items))
