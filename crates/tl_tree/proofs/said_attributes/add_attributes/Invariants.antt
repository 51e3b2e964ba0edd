use Rattle.std.proofs.Common.{◌≡◌, ◌++◌, take}
use Rattle.tl_tree.specs.Inner.Store.{Grows, list_in}
use Rattle.tl_tree.proofs.said_attributes.add_attributes.Given as goal

abbrev pub invariant-loop-entry : goal.invariant-loop-entry
invariant-loop-entry l = record {
  stands : list_in l.store l.list ≡ list_in l.fn.store l.list ++ take l.entry-index l.entries;
  grows : Grows l.fn.store l.store;
}
