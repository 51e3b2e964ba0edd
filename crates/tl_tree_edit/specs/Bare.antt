-- Nodes without where in the page they come from.
use Rattle.std.specs.Prelude.{None}
use Rattle.tl_dom_spec.specs.Marks.{unmarked}
use Rattle.tl_dom_spec.specs.Tags.{Tag}
use Rattle.tl_tree.specs.Rows.{Node, a_comment, a_doctype, a_text, an_element, contents}

abbrev pub bare_tag : Tag → Tag
bare_tag tag = record {
  space = tag.space;
  name = tag.name;
  attributes = tag.attributes;
  source = None;
}

abbrev pub bare : Node → Node
bare (an_element tag) = an_element (bare_tag tag)
bare contents = contents
bare (a_text own) = a_text (unmarked own.said)
bare (a_comment own) = a_comment (unmarked own.said)
bare (a_doctype own) = a_doctype (unmarked own.said)
