-- What a contract sees of a node.
use Rattle.std.specs.Prelude.{Option, Some, None}
use Rattle.tl.specs.Tag.{Tag}
use Rattle.tl.specs.declared.parser.tag.node.NodeOf.{NodeOf}
use Rattle.tl.specs.declared.parser.tag.node.NodeOf.TheVariants.{Tag as TagNode, Raw, Comment}

module _ {A B O : Type 0} where
  abbrev pub tag_of : NodeOf A B O → Option (Tag A B)
  tag_of (TagNode t) = Some t
  tag_of (Raw b) = None
  tag_of (Comment b) = None

  abbrev pub raw_of : NodeOf A B O → Option B
  raw_of (TagNode t) = None
  raw_of (Raw b) = Some b
  raw_of (Comment b) = None

  abbrev pub comment_of : NodeOf A B O → Option B
  comment_of (TagNode t) = None
  comment_of (Raw b) = None
  comment_of (Comment b) = Some b
