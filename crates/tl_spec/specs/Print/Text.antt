-- The text of trees.
use Rattle.std.specs.Prelude.{ℕ, List, [], ◌++◌, Result}
use Rattle.std.specs.Str.Lossy.{utf8_lossy}
use Rattle.tl_spec.specs.Tree.Forest.{Forest, none, text, comment, tag, PlainTag}
use Rattle.tl_spec.specs.Tree.Document.{Document, Node, Tag, Raw, Comment}
use Rattle.tl_spec.specs.Walk.{TreeFault, Event, meets, leaves, faulty, all_tags, walk, walk_of, walk_result}

-- the texts of trees in a row, comments and tags left out
abbrev pub text_of : Forest PlainTag → List ℕ
text_of none = []
text_of (text bytes more) = utf8_lossy bytes ++ text_of more
text_of (comment bytes more) = text_of more
text_of (tag own children more) = text_of children ++ text_of more

-- what the text of a walk has for one event
abbrev pub event_text : Event → List ℕ
event_text (meets h (Tag own)) = []
event_text (meets h (Raw bytes)) = utf8_lossy bytes
event_text (meets h (Comment bytes)) = []
event_text (leaves own) = []
event_text (faulty e) = []

-- the text of a document's top nodes, or the first fault
abbrev pub document_text : Document → Result (List ℕ) TreeFault
document_text d = walk_result text_of (walk all_tags d.nodes [] d.top)

-- the text of a node over a table
abbrev pub inner_text : List Node → Node → Result (List ℕ) TreeFault
inner_text nodes node = walk_result text_of (walk_of all_tags nodes node)
