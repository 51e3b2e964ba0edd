use Rattle.std.proofs.Common.{◌≡◌, false, map, take}
use Rattle.std.specs.List.{list_any}
use Rattle.tl_dom_spec.specs.Formatting.{is_same_attribute}
use Rattle.tl_tree.specs.Inner.Store.{attribute_of}
use Rattle.tl_tree.proofs.alike.has_attribute.Given as goal

abbrev pub invariant-loop-attribute : goal.invariant-loop-attribute
invariant-loop-attribute l =
    list_any (is_same_attribute (attribute_of l.store l.own)) (map (attribute_of l.store) (take l.attribute-index l.attribute-items)) ≡ false
