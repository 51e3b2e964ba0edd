-- What settling has written, and what it has still to write.
use Rattle.std.specs.Bool.{IsTrue}
use Rattle.std.specs.List.{list_all}
use Rattle.std.specs.Prelude.{Bool, List, None, Option, Some, [], length, map, nat_le, reverse, slice_index_or, ℕ, ◌&&◌, ◌+◌, ◌++◌, ◌<◌, ◌^◌, ◌≡◌, ◌∷◌}
use Rattle.tl_dom_spec.specs.HtmlForest.{HtmlForest}
use Rattle.tl_dom_spec.specs.Marks.{Marked, marked}
use Rattle.tl_dom_spec.specs.Path.{Nodes}
use Rattle.tl_tree.specs.Inner.Gathering.{Flat, Gathered, closed, flat, gathered}
use Rattle.tl_tree.specs.Inner.RowView.{bytes_in, flat_in, held_in, row_in, row_is_within}
use Rattle.tl_tree.specs.Inner.Store.{IsAlike, bytes_of, is_row, is_span, is_tag_number, nodes_of, sizes_of, tag_at, text_of}
use Rattle.tl_tree.specs.Inner.Within.{Sizes, span_is_within}
use Rattle.tl_tree.specs.Rows.{rows_of}
use Rattle.tl_tree.specs.declared.cell.Cell.{Cell}
use Rattle.tl_tree.specs.declared.cell.Node.{Node}
use Rattle.tl_tree.specs.declared.cell.Node.TheVariants.{Element, Joined}
use Rattle.tl_tree.specs.declared.row.Held.{Held}
use Rattle.tl_tree.specs.declared.settling.Opened.{Opened}
use Rattle.tl_tree.specs.declared.settling.Opened.TheVariants as opened
use Rattle.tl_tree.specs.declared.settling.Settling.{Settling}
use Rattle.tl_tree.specs.declared.settling.Settled.{Settled}
use Rattle.tl_tree.specs.declared.span.Span.{Span}
use Rattle.tl_tree.specs.declared.store.Store.{Store}

-- In range

-- with what is copied behind the text
abbrev pub sizes_with : Store → List ℕ → Sizes
sizes_with s copied = record (sizes_of s) { side = length s.side.items + length copied }

abbrev pub opened_is_within : Store → Opened → Bool
opened_is_within s (opened.Element tag before behind) = is_tag_number s tag && is_row s before
opened_is_within s (opened.Row before) = is_row s before

pub record Sound (g : Settling) : Type 0 where
  pub short : length g.store.page.now
      + (length g.store.side.items + length g.copied.items) < 2 ^ 32
  pub few : length g.rows.items < 2 ^ 32
  pub rows : IsTrue (list_all (row_is_within (sizes_with g.store g.copied.items)) g.rows.items)
  pub pieces : IsTrue (list_all (is_span g.store) g.pieces.items)
  pub stack : IsTrue (list_all (opened_is_within g.store) g.stack.items)

-- What is written

abbrev pub text_with : Store → List ℕ → List ℕ
text_with s copied = text_of s ++ copied

-- pieces of a text, the last first
abbrev pub text_of_pieces : Store → List Span → List ℕ
text_of_pieces s [] = []
text_of_pieces s (piece ∷ pieces) = text_of_pieces s pieces ++ bytes_of s piece

-- with the number of marks before the first one
abbrev pub pending_of : Store → ℕ → List Span → Option (Marked (List ℕ))
pending_of s source [] = None
pending_of s source (piece ∷ pieces) = Some (marked source (text_of_pieces s (piece ∷ pieces)))

abbrev pub flats_of : Settling → List Flat
flats_of g = map (flat_in g.store (text_with g.store g.copied.items)) g.rows.items

abbrev pub state_of : Settling → Gathered
state_of g = record {
  pending = pending_of g.store g.source g.pieces.items;
  rows = flats_of g;
}

-- What is to be written

-- what follows, the innermost first
abbrev pub resumed : Store → List Opened → Gathered → Gathered
resumed s [] g = g
resumed s (opened.Element tag before behind ∷ stack) g =
    resumed s stack (gathered (nodes_of s before) (closed (tag_at s tag) behind g))
resumed s (opened.Row before ∷ stack) g = resumed s stack (gathered (nodes_of s before) g)

-- all that will be written
abbrev pub whole_of : Settling → Nodes → Gathered
whole_of g nodes = resumed g.store (reverse g.stack.items) (gathered nodes (state_of g))

-- How much is to be written: a step for each cell that a row comes to

abbrev pub node_weight : List ℕ → Node → ℕ
node_weight weights (Element tag below) = 1 + slice_index_or weights below 0
node_weight weights (Joined second) = 1 + slice_index_or weights second 0
node_weight weights _ = 0

abbrev pub cell_weight : List ℕ → Cell → ℕ
cell_weight weights c = 1 + slice_index_or weights c.before 0 + node_weight weights c.node

abbrev pub weights_from : List ℕ → List Cell → List ℕ
weights_from weights [] = weights
weights_from weights (c ∷ cells) = weights_from (weights ++ cell_weight weights c ∷ []) cells

unfoldable pub weight_of : Store → ℕ → ℕ
weight_of s n = slice_index_or (weights_from (0 ∷ []) s.cells.items) n 0

abbrev pub opened_weight : Store → Opened → ℕ
opened_weight s (opened.Element tag before behind) = 1 + weight_of s before
opened_weight s (opened.Row before) = 1 + weight_of s before

abbrev pub stack_weight : Store → List Opened → ℕ
stack_weight s [] = 0
stack_weight s (own ∷ stack) = opened_weight s own + stack_weight s stack

-- of the node of a cell, without what stands before it
abbrev pub held_weight : Store → Node → ℕ
held_weight s (Element tag below) = 1 + weight_of s below
held_weight s (Joined second) = 1 + weight_of s second
held_weight s _ = 0

-- What each part of the code does

-- a row more
pub record Pushes (old new : Settling) (held : Held) (behind : ℕ) : Type 0 where
  pub sound : Sound new
  pub store : new.store ≡ old.store
  pub rows : flats_of new ≡ flats_of old
      ++ flat (held_in old.store (text_with old.store old.copied.items) held) behind ∷ []
  pub copied : new.copied.items ≡ old.copied.items
  pub pieces : new.pieces.items ≡ old.pieces.items
  pub source : new.source ≡ old.source
  pub stack : new.stack.items ≡ old.stack.items

-- bytes that are what the pieces say
pub record Copies (old new : Settling) (span : Span) : Type 0 where
  pub sound : Sound new
  pub store : new.store ≡ old.store
  pub within : IsTrue
      (span_is_within (length old.store.page.now)
      (length old.store.side.items + length new.copied.items)
      span)
  pub bytes : bytes_in (text_with old.store new.copied.items) span
      ≡ text_of_pieces old.store old.pieces.items
  pub rows : flats_of new ≡ flats_of old
  pub pieces : new.pieces.items ≡ old.pieces.items
  pub source : new.source ≡ old.source
  pub stack : new.stack.items ≡ old.stack.items

-- another state, and as much to follow
pub record Turns (old new : Settling) (given : Gathered) : Type 0 where
  pub sound : Sound new
  pub store : new.store ≡ old.store
  pub state : state_of new ≡ given
  pub stack : new.stack.items ≡ old.stack.items

-- a row of nodes is next, with which the same will be written
pub record Goes (old new : Settling) (nodes : Nodes) (weight : ℕ) (next : ℕ) : Type 0 where
  pub sound : Sound new
  pub store : new.store ≡ old.store
  pub within : IsTrue (is_row new.store next)
  pub whole : whole_of new (nodes_of new.store next) ≡ whole_of old nodes
  pub less : weight_of new.store next + stack_weight new.store new.stack.items + 1
      ≡ weight + stack_weight old.store old.stack.items

-- no row of nodes is next: all is written
pub record Ends (old new : Settling) (nodes : Nodes) : Type 0 where
  pub sound : Sound new
  pub store : new.store ≡ old.store
  pub whole : state_of new ≡ whole_of old nodes
  pub stack : new.stack.items ≡ []

-- another state, and nothing to follow. Cells that nothing comes to any more may be gone
pub record Writes (old new : Settling) (given : Gathered) : Type 0 where
  pub sound : Sound new
  pub store : IsAlike old.store new.store
  pub state : state_of new ≡ given

-- What stays of the cells

-- the row that is written once what is opened is done with
abbrev pub row_before : Opened → ℕ
row_before (opened.Element tag before behind) = before
row_before (opened.Row before) = before

-- what is opened comes to so many cells at most
abbrev pub comes_to : ℕ → Opened → Bool
comes_to count own = nat_le (row_before own) count

-- cells are gone, and the same will be written, where a row is next
pub record Cuts (old new : Settling) (row : ℕ) : Type 0 where
  pub sound : Sound new
  pub store : IsAlike old.store new.store
  pub within : IsTrue (is_row new.store row)
  pub whole : whole_of new (nodes_of new.store row) ≡ whole_of old (nodes_of old.store row)
  pub same : weight_of new.store row + stack_weight new.store new.stack.items
      ≡ weight_of old.store row + stack_weight old.store old.stack.items

-- What settling is for

-- rows of trees, with what was copied for them
pub record AreRowsOf (trees : HtmlForest) (made : Settled) : Type 0 where
  pub short : length made.store.page.now
      + (length made.store.side.items + length made.copied.items) < 2 ^ 32
  pub few : length made.rows.items < 2 ^ 32
  pub within : IsTrue
      (list_all (row_is_within (sizes_with made.store made.copied.items)) made.rows.items)
  pub rows : map (row_in made.store (text_with made.store made.copied.items)) made.rows.items
      ≡ rows_of trees
