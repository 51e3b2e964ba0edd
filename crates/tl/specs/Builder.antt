-- What a table that is being written is.
use Rattle.std.specs.Prelude.{ℕ, ◌<◌, ◌^◌, Bool, ◌||◌, if◌then◌else◌, All, List, length, map, reverse, drop}
use Rattle.tl_bytes.specs.Held.{Held, Kept}
use Rattle.tl_spec.specs.Lex.Token.{PlacedToken}
use Rattle.tl_spec.specs.Tree.Forest.{closes, SourceTag}
use Rattle.tl_spec.specs.Tree.Document.{Node, Raw, Comment, Document, held_attributes}
use Rattle.tl_spec.specs.Tree.Builder.{State, with_next_node, with_open_tag, after_end, enclosing_name}
use Rattle.tl_lexer.specs.Span.{bytes_at}
use Rattle.tl_lexer.specs.declared.span.Span.{Span}
use Rattle.tl_lexer.specs.TokenMeaning.{meant}
use Rattle.tl_lexer.specs.declared.tag.TagEnd.{TagEnd}
use Rattle.tl_lexer.specs.declared.tag.TagEnd.TheVariants.{Opens, Alone, Broken}
use Rattle.tl_lexer.specs.declared.token.Token.{Token}
use Rattle.tl_lexer.specs.declared.token.Token.TheVariants.{Text as TextToken, End as EndToken, Comment as CommentToken, Doctype as DoctypeToken, Start as StartToken, Nothing as NothingToken}
use Rattle.tl.specs.View.{node_view, IsHeldNode}
use Rattle.tl.specs.declared.parser.builder.TableBuilder.{TableBuilder}
use Rattle.tl_spec.specs.Lex.Attribute.{Pair, attributes}
use Rattle.tl_spec.specs.Lex.AttributeList.{Attributes, attributes_of}

-- what has been written, the innermost open tag first
abbrev pub state_of : TableBuilder → State
state_of b = record {
  nodes = map node_view b.nodes.items;
  open_tags = reverse b.open_tags.items;
  top = b.top.items;
  is_html5 = b.is_html5;
}

-- the tag of a start tag written: nothing where that is broken, else opened unless it stands alone
abbrev pub with_tag : Node → Bool → State → TagEnd → State
with_tag node void s Broken = s
with_tag node void s Alone = with_next_node node s
with_tag node void s Opens = (if void then with_next_node node s else with_open_tag node s)

-- a token that is no start tag and ends at a place written
abbrev pub with_whole : List ℕ → Token → ℕ → State → State
with_whole t (TextToken span) to s = with_next_node (Raw (bytes_at t span)) s
with_whole t (EndToken name) to s =
    after_end t to s (closes (bytes_at t name) (enclosing_name s.nodes s.open_tags))
with_whole t (CommentToken span) to s = with_next_node (Comment (bytes_at t span)) s
with_whole t (DoctypeToken html) to s = record s { is_html5 = s.is_html5 || html }
with_whole t (StartToken name) to s = s
with_whole t NothingToken to s = s

-- what a token of the lexer stands for, from one place to another
abbrev pub placed_token : List ℕ → Token → ℕ → ℕ → ℕ → PlacedToken
placed_token t token after from to = record {
  token = (meant t token after).0;
  from = from;
  to = to;
}

-- the bytes at a span of a text, held so
abbrev pub piece_at : Held → List ℕ → Span → Kept
piece_at held t span = record { list = bytes_at t span; held = held }

-- one more node has a number
abbrev pub HasRoom : TableBuilder → Type 0
HasRoom b = length b.nodes.items < 2 ^ 32

-- each piece of each node is held so
abbrev pub AreHeld : Held → TableBuilder → Type 0
AreHeld held b = All (IsHeldNode held) b.nodes.items

-- what has been written, as a document
abbrev pub document_of_state : State → Document
document_of_state s = record { nodes = s.nodes; top = s.top; is_html5 = s.is_html5 }

-- pairs as the attributes of a tag, and what stands after them
abbrev pub read_of : List Pair × List ℕ → Attributes (List ℕ) × List ℕ
read_of found = (held_attributes (attributes_of found.0), found.1)

-- the tag of this name whose attributes stand from `at` on, and which itself stands from one place
-- to another
abbrev pub source_tag : List ℕ → Span → ℕ → ℕ → ℕ → SourceTag
source_tag t name at from to = record {
  name = bytes_at t name;
  attributes = attributes_of (attributes (drop at t)).0;
  from = from;
  to = to;
}
