-- Words for worked rows: what a row says is written out, and a quoted text stands for its bytes. No
-- contract cites them.
use Prim.Native.String.{String}
use Rattle.std.specs.Prelude.{ℕ, true, false, List, Some, None, codes}
use Rattle.tl_spec.specs.Lex.Attribute.{Pair}
use Rattle.tl_spec.specs.Tree.Document.{Node, Tag, Raw, Comment, Document, document}
use Rattle.tl_spec.specs.Edit.{Change, apply_changes}
use Rattle.tl_spec.specs.Tree.Forest as forest
use Rattle.tl_spec.specs.Select.Selector as selector

-- a key without a value
abbrev pub key : String → Pair
key name = (codes name, None)

-- a key and its value
abbrev pub pair : String → String → Pair
pair name value = (codes name, Some (codes value))

-- a text
abbrev pub text_node : String → Node
text_node bytes = Raw (codes bytes)

-- a comment
abbrev pub comment_node : String → Node
comment_node bytes = Comment (codes bytes)

-- a tag by its name, its pairs, its children, its raw and the place of its `<`; pairs and children
-- lie inline, and there is neither `id` nor `class`
abbrev pub element : String → List Pair → List ℕ → String → ℕ → Node
element name pairs children raw start = Tag (record {
  name = codes name;
  attributes =
      record { others = record { entries = pairs; on_heap = false }; id = None; class = None };
  children = record { items = children; on_heap = false };
  raw = codes raw;
  start = start;
})

-- nodes and the handles of the top, where no doctype of HTML5 was read
abbrev pub table : List Node → List ℕ → Document
table nodes top = record { nodes = nodes; top = top; is_html5 = false }

-- a document of these nodes in which a doctype was read
abbrev pub html5_table : List Node → List ℕ → Document
html5_table nodes top = record { nodes = nodes; top = top; is_html5 = true }

-- the nodes of a page
abbrev pub nodes_of : String → List Node
nodes_of page = (document (codes page)).nodes

-- a page after edits
abbrev pub document_after : List Change → String → Document
document_after changes page = (apply_changes changes (document (codes page))).document

-- the nodes of a page after edits
abbrev pub nodes_after : List Change → String → List Node
nodes_after changes page = (document_after changes page).nodes

-- the first tree a tag, by its name and its pairs, of which none is `id` or `class`; with its
-- children, and the trees after it
abbrev pub tag_tree : String → List Pair → forest.Forest forest.PlainTag →
    forest.Forest forest.PlainTag → forest.Forest forest.PlainTag
tag_tree name pairs children more =
    forest.tag (record {
      name = codes name;
      attributes = record { others = pairs; id = None; class = None };
    }) children more

-- the first tree a text, and the trees after it
abbrev pub text_tree : String → forest.Forest forest.PlainTag → forest.Forest forest.PlainTag
text_tree bytes more = forest.text (codes bytes) more

-- the first tree a comment, and the trees after it
abbrev pub comment_tree : String → forest.Forest forest.PlainTag → forest.Forest forest.PlainTag
comment_tree bytes more = forest.comment (codes bytes) more

-- the simple selectors of a name, an id and a class
abbrev pub tag : String → selector.Selector
tag name = selector.Tag (codes name)

abbrev pub id : String → selector.Selector
id name = selector.Id (codes name)

abbrev pub class : String → selector.Selector
class name = selector.Class (codes name)
