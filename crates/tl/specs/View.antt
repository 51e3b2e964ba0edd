-- What a table is in the words of the definitions.
use Rattle.std.specs.Prelude.{Bool, true, false, map, Option, Some, None, ℕ, ◌+◌, ◌-◌, length}
use Rattle.tl_spec.specs.Tree.Document.{TagNode, Node, Tag, Raw, Comment, Document}
use Rattle.tl_bytes.specs.Held.{Kept, Held}
use Rattle.tl_spec.specs.Lex.AttributeList.{Attributes}
use Rattle.tl_attributes.specs.AttributesView.{bytes_view, attributes_view}
use Rattle.tl_tracking.specs.Tracking.{Tracking}
use Rattle.tl.specs.Tag.{Tag as KeptTag}
use Rattle.tl.specs.Table.{Table}
use Rattle.tl.specs.declared.parser.tag.node.NodeOf.{NodeOf}
use Rattle.tl.specs.declared.parser.tag.node.NodeOf.TheVariants.{Tag as ATag, Raw as ARaw, Comment as AComment}
use Rattle.tl_attributes.specs.declared.summary.Summary.{Summary}
use Rattle.tl.specs.declared.parser.base.HTMLVersion.{HTMLVersion}
use Rattle.tl.specs.declared.parser.base.HTMLVersion.TheVariants.{HTML5, StrictHTML401, TransitionalHTML401, FramesetHTML401}
use Rattle.tl_attributes.specs.HeldAttributes.{IsHeld, AreHeldAttributes}

-- a tag of a table that `parse` gives
abbrev pub HTMLTag : Type 0
HTMLTag = KeptTag (Attributes Kept) Kept

abbrev pub tag_view : HTMLTag → TagNode
tag_view t = record {
  name = bytes_view t.name;
  attributes = attributes_view t.attributes;
  children = t.children;
  raw = bytes_view t.raw;
  start = t.start;
}

-- a node of such a table
abbrev pub HTMLNode : Type 0
HTMLNode = NodeOf (Attributes Kept) Kept Summary

abbrev pub node_view : HTMLNode → Node
node_view (ATag t) = Tag (tag_view t)
node_view (ARaw b) = Raw (bytes_view b)
node_view (AComment b) = Comment (bytes_view b)

abbrev pub is_html5 : Option HTMLVersion → Bool
is_html5 (Some HTML5) = true
is_html5 (Some StrictHTML401) = false
is_html5 (Some TransitionalHTML401) = false
is_html5 (Some FramesetHTML401) = false
is_html5 None = false

-- the version of a document just read
abbrev pub version_of : Bool → Option HTMLVersion
version_of true = Some HTML5
version_of false = None

-- a table that `parse` gives
abbrev pub HTMLTable : Type 0
HTMLTable = Table (Attributes Kept) Kept Summary (Tracking Kept)

-- a table as a document
abbrev pub document_of : HTMLTable → Document
document_of t = record { nodes = map node_view t.nodes; top = t.top; is_html5 = is_html5 t.version }

-- the places of the first and of the last byte of its source, where an empty one has one place
abbrev pub boundaries : HTMLTag → ℕ × ℕ
boundaries t = (t.start, t.start + (length t.raw.list - 1))

-- each name, key, value and raw
pub record IsHeldTag (held : Held) (t : HTMLTag) : Type 0 where
  pub name : IsHeld held t.name
  pub attributes : AreHeldAttributes held t.attributes
  pub raw : IsHeld held t.raw

-- each piece of a node
abbrev pub IsHeldNode : Held → HTMLNode → Type 0
IsHeldNode held (ATag t) = IsHeldTag held t
IsHeldNode held (ARaw b) = IsHeld held b
IsHeldNode held (AComment b) = IsHeld held b
