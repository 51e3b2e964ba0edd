-- Rows of nodes as they are written: from the last to the first, each once all below it is written.
use Rattle.std.specs.Prelude.{Bool, List, None, Option, Some, [], false, length, true, ℕ, ◌++◌, ◌∷◌}
use Rattle.tl_dom_spec.specs.HtmlForest.{has_contents}
use Rattle.tl_dom_spec.specs.Marks.{Marked}
use Rattle.tl_dom_spec.specs.Path.{Nodes, and_comment, and_doctype, and_element, and_text, no_nodes}
use Rattle.tl_dom_spec.specs.Tags.{Tag}
use Rattle.tl_tree.specs.Rows.{Node, a_comment, a_doctype, a_text, an_element, contents}

-- a row by the number of rows that come behind all that is below it
pub record Flat : Type 0 where
  pub node : Node
  pub behind : ℕ

abbrev pub flat : Node → ℕ → Flat
flat node behind = record { node = node; behind = behind }

-- what is written
pub record Gathered : Type 0 where
  -- a text that stands before it, to which others may be added
  pub pending : Option (Marked (List ℕ))
  -- the last row of the page first
  pub rows : List Flat

-- a text stands before it all
abbrev pub text_before : Marked (List ℕ) → Option (Marked (List ℕ)) → Option (Marked (List ℕ))
text_before own None = Some own
text_before own (Some more) = Some (record own { said = own.said ++ more.said })

abbrev pub with_piece : Marked (List ℕ) → Gathered → Gathered
with_piece own g = record { pending = text_before own g.pending; rows = g.rows }

abbrev pub with_row : List Flat → Node → List Flat
with_row rows node = rows ++ flat node (length rows) ∷ []

abbrev pub with_pending : Option (Marked (List ℕ)) → List Flat → List Flat
with_pending None rows = rows
with_pending (Some own) rows = with_row rows (a_text own)

-- the text is whole
abbrev pub flushed : Gathered → List Flat
flushed g = with_pending g.pending g.rows

abbrev pub only_rows : List Flat → Gathered
only_rows rows = record { pending = None; rows = rows }

-- a row of its own
abbrev pub put : Node → Gathered → Gathered
put node g = only_rows (with_row (flushed g) node)

abbrev pub contents_flat : Bool → ℕ → List Flat
contents_flat true behind = flat contents behind ∷ []
contents_flat false behind = []

-- an element, once all below it is written
abbrev pub closed : Tag → ℕ → Gathered → Gathered
closed tag behind g =
    only_rows
    (flushed g ++ (contents_flat (has_contents tag) behind ++ flat (an_element tag) behind ∷ []))

-- nodes, before what is written
abbrev pub gathered : Nodes → Gathered → Gathered
gathered no_nodes g = g
gathered (and_text nodes own) g = gathered nodes (with_piece own g)
gathered (and_comment nodes own) g = gathered nodes (put (a_comment own) g)
gathered (and_doctype nodes own) g = gathered nodes (put (a_doctype own) g)
gathered (and_element nodes tag children) g =
    gathered nodes
    (closed tag (length (flushed g)) (gathered children (only_rows (flushed g))))
