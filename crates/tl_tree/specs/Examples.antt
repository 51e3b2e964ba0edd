-- Words for worked rows. No contract cites them.
use Prim.Native.String.{String}
use Rattle.std.specs.Prelude.{List, None, Option, Some, [], codes, false, ℕ, ◌+◌, ◌++◌, ◌∷◌}
use Rattle.tl_dom_spec.specs.HtmlForest.{HtmlForest, doctype, element, text}
use Rattle.tl_dom_spec.specs.Marks.{unmarked}
use Rattle.tl_dom_spec.specs.Tags.{bare_tag}
use Rattle.tl_tree.specs.Rows.{Node, Row, a_comment, a_doctype, a_text, an_element, contents, rows_of}

abbrev pub an : String → HtmlForest → HtmlForest → HtmlForest
an name below more = element (bare_tag (codes name)) below more

abbrev pub says : String → HtmlForest → HtmlForest
says bytes more = text (unmarked (codes bytes)) more

abbrev pub the_doctype : HtmlForest → HtmlForest
the_doctype more =
    doctype
    (unmarked
    (record { name = codes "html"; public_id = None; system_id = None; forces_quirks = false }))
    more

abbrev pub node_shown : Node → List ℕ
node_shown (an_element tag) = tag.name
node_shown contents = codes "#contents"
node_shown (a_text own) = codes "'" ++ own.said ++ codes "'"
node_shown (a_comment own) = codes "<!--" ++ own.said ++ codes "-->"
node_shown (a_doctype own) = codes "<!" ++ own.said.name ++ codes ">"

-- a number below ten
abbrev pub digit : ℕ → List ℕ
digit n = (48 + n) ∷ []

abbrev pub parent_shown : Option ℕ → List ℕ
parent_shown None = codes "-"
parent_shown (Some n) = digit n

-- each row as `node parent end`
abbrev pub shown : List Row → List ℕ
shown [] = []
shown (row ∷ rows) =
    node_shown row.node ++ codes " " ++ parent_shown row.parent ++ codes " " ++ digit row.end
    ++ codes "; " ++ shown rows

abbrev pub rows : HtmlForest → List ℕ
rows trees = shown (rows_of trees)
