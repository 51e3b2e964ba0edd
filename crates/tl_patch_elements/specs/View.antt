-- Elements of the code, as the definitions have them.
use Rattle.std.specs.Prelude.{List, map}
use Rattle.tl_html_parts.specs.Parts.{name_of}
use Rattle.tl_patch_spec.specs.Elements.{Element}
use Rattle.tl_patch_elements.specs.declared.found.Element.{Element as CodeElement}

abbrev pub element_view : CodeElement → Element
element_view e = record {
  name = name_of e.name.now;
  start = e.start;
  end = e.end;
  has_end_tag = e.has_end_tag;
}

abbrev pub elements_view : List CodeElement → List Element
elements_view es = map element_view es
