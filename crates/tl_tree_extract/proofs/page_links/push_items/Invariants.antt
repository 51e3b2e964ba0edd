use Rattle.std.proofs.Common.{◌≡◌, ◌++◌, ◌-◌, length, map}
use Rattle.tl_tree.specs.Asked.{attribute_said}
use Rattle.tl_tree_extract.specs.Links.{link_said, linked, parts_from}
use Rattle.tl_tree_extract.proofs.page_links.push_items.Given as goal

abbrev pub invariant-loop : goal.invariant-loop
invariant-loop l =
    map link_said l.links.items
    ++ map (linked l.node (attribute_said l.attribute)) (parts_from l.kind (length l.value) l.rest (length l.value - l.counter))
    ≡ map link_said l.initial.links.items
    ++ map (linked l.node (attribute_said l.attribute)) (parts_from l.kind (length l.value) l.value (length l.value))
