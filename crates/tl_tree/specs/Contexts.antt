-- The element that a fragment is read in, in words of `tl_dom_spec`.
use Rattle.std.specs.Prelude.{List, None, map, ℕ}
use Rattle.std.specs.Borrow.{Bor}
use Rattle.tl_dom_spec.specs.HtmlTree as dom
use Rattle.tl_dom_spec.specs.Tags.{Attribute, Tag, plain_attribute}
use Rattle.tl_tree.specs.Inner.Store.{space_of}
use Rattle.tl_tree.specs.declared.context.Context.{Context}

-- an attribute by its key and its value
abbrev pub attribute_in : Bor (List ℕ) × Bor (List ℕ) → Attribute
attribute_in own = plain_attribute (own.0.now, own.1.now)

abbrev pub tag_in : Context → Tag
tag_in c = record {
  space = space_of c.namespace;
  name = c.name.now;
  attributes = map attribute_in c.attributes.now;
  source = None;
}

abbrev pub context_of : Context → dom.Context
context_of c = record { tag = tag_in c; is_in_form = c.is_in_form; is_quirks = c.is_quirks }
