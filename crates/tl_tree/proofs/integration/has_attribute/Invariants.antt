use Rattle.std.proofs.Common.{map, take, ◌≡◌, false}
use Rattle.tl_dom_spec.specs.Tags.{has_attribute}
use Rattle.tl_tree.specs.Inner.Store.{attribute_of}
use Rattle.tl_tree.proofs.integration.has_attribute.Given as goal

abbrev pub invariant-loop-attribute : goal.invariant-loop-attribute
invariant-loop-attribute l =
    has_attribute l.key (map (attribute_of l.store) (take l.attribute-index l.attribute-items)) ≡ false
