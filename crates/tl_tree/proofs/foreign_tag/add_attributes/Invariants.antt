use Rattle.std.proofs.Common.{drop, length, map, take, ◌+◌, ◌≡◌}
use Rattle.tl_dom_spec.specs.Adjusted.{foreign_attribute}
use Rattle.tl_tree.specs.Inner.Said.{attributes_in}
use Rattle.tl_tree.specs.Inner.Store.{Grows, entries_of, list_in, space_of}
use Rattle.tl_tree.specs.declared.entries.AttributeList.TheVariants.{Tags}
use Rattle.tl_tree.proofs.foreign_tag.add_attributes.Given as goal

abbrev pub invariant-loop-place : goal.invariant-loop-place
invariant-loop-place l = record {
  stands : attributes_in l.store (drop (length (list_in l.fn.store Tags)) (list_in l.store Tags)) ≡ map (foreign_attribute (space_of l.space)) (attributes_in l.fn.store (take l.place (entries_of l.fn.store l.tag)));
  many : length (list_in l.store Tags) ≡ length (list_in l.fn.store Tags) + l.place;
  grows : Grows l.fn.store l.store;
}
