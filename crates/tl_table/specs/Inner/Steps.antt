-- How links are put in, one after the other.
use Rattle.std.specs.Prelude.{ℕ, Bool, ◌&&◌, false, if◌then◌else◌, List, [], ◌∷◌, Option, None, Some, slice_get, slice_set}
use Rattle.std.specs.Option.{is_none, option_map_or}
use Rattle.tl_table.specs.declared.links.Links.{Links}
use Rattle.tl_table.specs.Links.{child_links}

-- a node of the table that has no parent yet
abbrev pub is_orphan : List Links → ℕ → Bool
is_orphan links n = option_map_or (λ (own : Links). is_none own.parent) (slice_get links n) false

-- neither a parent nor a sibling behind it
abbrev pub is_loose : List Links → ℕ → Bool
is_loose links n = option_map_or
    (λ (own : Links). is_none own.parent && is_none own.next) (slice_get links n) false

-- links with those of a child, unless it has a parent
abbrev pub with_child : Option ℕ → ℕ → Option ℕ → List Links → List Links
with_child None parent next links = links
with_child (Some child) parent next links =
    if is_orphan links child then slice_set links child (child_links parent next) else links

-- the same of each child of a row
abbrev pub with_row : List ℕ → ℕ → List Links → List Links
with_row [] parent links = links
with_row (c ∷ cs) parent links =
    with_row cs parent (with_child (Some c) parent (slice_get cs 0) links)

-- links with those of a node at the top, unless it has some
abbrev pub with_top_node : ℕ → Option ℕ → List Links → List Links
with_top_node n next links =
    if is_loose links n then slice_set links n (record { parent = None; next = next }) else links

-- the same of each node at the top
abbrev pub with_top : List ℕ → List Links → List Links
with_top [] links = links
with_top (c ∷ cs) links = with_top cs (with_top_node c (slice_get cs 0) links)
