use Rattle.std.proofs.Common.{IsTrue, ◌≡◌, map, take}
use Rattle.std.specs.List.{list_all}
use Rattle.tl_dom_spec.specs.Tags.{plain_attribute}
use Rattle.tl_html_parts.specs.Parts.{attributes_of}
use Rattle.tl_html_parts.specs.Places.{pairs_in}
use Rattle.tl_tree.specs.Inner.Said.{AreKeysBehind, attributes_in, keys_in}
use Rattle.tl_tree.specs.Inner.Store.{Grows, is_attribute}
use Rattle.tl_tree.proofs.said_attributes.put_attributes.Given as goal

abbrev pub invariant-loop-attribute : goal.invariant-loop-attribute
invariant-loop-attribute l = record {
  stands : attributes_in l.store l.entries.items
      ≡ map plain_attribute (attributes_of (pairs_in l.fn.store.page.now (take l.attribute-index l.attributes)));
  keys : AreKeysBehind l.keys (keys_in l.store l.entries.items);
  within : IsTrue (list_all (is_attribute l.store) l.entries.items);
  grows : Grows l.fn.store l.store;
}
