-- Where each node of a table stands.
use Rattle.std.specs.Prelude.{◌≡◌, ℕ, ◌+◌, ◌==◌, if◌then◌else◌, List, [], ◌∷◌, map, Option, None, Some, option_map, slice_get}
use Rattle.std.specs.Option.{option_flatten, option_map_or}
use Rattle.tl_spec.specs.Tree.Document.{Node}
use Rattle.tl_spec.specs.Tree.Element.{children_of}
use Rattle.tl_table.specs.declared.links.Links.{Links}

-- what stands behind a number in a row, if anything, where the number stands in it
abbrev pub behind : ℕ → List ℕ → Option (Option ℕ)
behind n [] = None
behind n (c ∷ cs) = if c == n then Some (slice_get cs 0) else behind n cs

-- the links of a node that stands in a row of children of this one
abbrev pub child_links : ℕ → Option ℕ → Links
child_links parent next = record { parent = Some parent; next = next }

-- the links of a node by the first of these rows in which it stands, which are those of nodes from
-- the number m on
abbrev pub links_in : ℕ → List (List ℕ) → ℕ → Option Links
links_in m [] n = None
links_in m (row ∷ rows) n =
    option_map_or (λ next. Some (child_links m next)) (behind n row) (links_in (m + 1) rows n)

-- the links of a node that stands in no row: at the top
abbrev pub top_links : List ℕ → ℕ → Links
top_links top n = record { parent = None; next = option_flatten (behind n top) }

-- the links of the node of a number
abbrev pub links_of : List Node → List ℕ → ℕ → Links
links_of nodes top n =
    option_map_or (λ links. links) (links_in 0 (map children_of nodes) n) (top_links top n)

-- the links of each node of the table
abbrev pub AreLinks : List Node → List ℕ → List Links → Type 0
AreLinks nodes top links =
    (n : ℕ) → slice_get links n ≡ option_map (λ node. links_of nodes top n) (slice_get nodes n)
