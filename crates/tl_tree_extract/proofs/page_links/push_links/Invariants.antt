use Rattle.std.proofs.Common.{◌≡◌, ◌++◌, flat_map, map}
use Rattle.tl_tree.specs.TreeView.{rows_in}
use Rattle.tl_tree_extract.specs.Links.{attribute_links, link_said, links_at}
use Rattle.tl_tree_extract.proofs.page_links.push_links.Given as goal

-- what was added, and then the links of the attributes that are left, are all
abbrev pub invariant-loop-attribute : goal.invariant-loop-attribute
invariant-loop-attribute l =
    map link_said l.links.items
    ++ flat_map (attribute_links (rows_in l.tree) l.number) l.attribute-iterator
    ≡ map link_said l.initial.links.items ++ links_at (rows_in l.tree) l.number
