-- Trees in a row, in the order of the page.
use Rattle.std.specs.Prelude.{Bool, List, ℕ}
use Rattle.tl_dom_spec.specs.Marks.{Marked}
use Rattle.tl_dom_spec.specs.Tags.{Tag, is_template}
use Rattle.tl_html_spec.specs.Doctypes.{Doctype}
use Rattle.tl_dom_spec.specs.Path.{Nodes, and_comment, and_doctype, and_element, and_text, no_nodes}

-- an element with what stands below it: its children, or of a `template` its contents
pub data HtmlForest : Type 0 where
  no_trees : HtmlForest
  text : Marked (List ℕ) → HtmlForest → HtmlForest
  comment : Marked (List ℕ) → HtmlForest → HtmlForest
  doctype : Marked Doctype → HtmlForest → HtmlForest
  element : Tag → HtmlForest → HtmlForest → HtmlForest

-- these nodes, and then those trees
abbrev pub before : Nodes → HtmlForest → HtmlForest
before no_nodes later = later
before (and_text nodes own) later = before nodes (text own later)
before (and_comment nodes own) later = before nodes (comment own later)
before (and_doctype nodes own) later = before nodes (doctype own later)
before (and_element nodes tag children) later =
    before nodes (element tag (before children no_trees) later)

-- whether what stands below an element are its contents, and no children of it
abbrev pub has_contents : Tag → Bool
has_contents tag = is_template tag
