use Rattle.std.proofs.Common.{map, take, ◌++◌, ◌≡◌}
use Rattle.tl_tree.specs.Contexts.{attribute_in}
use Rattle.tl_tree.specs.Inner.Said.{attributes_in}
use Rattle.tl_tree.specs.Inner.Store.{Grows, list_in}
use Rattle.tl_tree.specs.declared.entries.AttributeList.TheVariants.{Tags}
use Rattle.tl_tree.proofs.context_tag.add_attributes.Given as goal

abbrev pub invariant-loop-key : goal.invariant-loop-key
invariant-loop-key l = record {
  stands : attributes_in l.store (list_in l.store Tags) ≡ attributes_in l.fn.store (list_in l.fn.store Tags) ++ map attribute_in (take l.key-index l.attributes);
  grows : Grows l.fn.store l.store;
}
