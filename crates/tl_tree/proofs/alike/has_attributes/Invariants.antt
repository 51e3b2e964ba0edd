use Rattle.std.proofs.Common.{◌≡◌, map, take, true}
use Rattle.std.specs.List.{list_all, list_any}
use Rattle.tl_dom_spec.specs.Formatting.{is_same_attribute}
use Rattle.tl_dom_spec.specs.Tags as dom
use Rattle.tl_tree.specs.Inner.Store.{attribute_of, entries_of}
use Rattle.tl_tree.proofs.alike.has_attributes.Given as goal

abbrev pub invariant-loop-place : goal.invariant-loop-place
invariant-loop-place l =
    list_all
    (λ (x : dom.Attribute). list_any (is_same_attribute x) (map (attribute_of l.store) (entries_of l.store l.fn.other)))
    (map (attribute_of l.store) (take l.place l.attributes))
    ≡ true
