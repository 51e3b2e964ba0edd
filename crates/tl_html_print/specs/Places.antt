-- The nodes of trees in the order of the page, with what is below each: as many as `tl_tree` has
-- rows. And what is printed of them.
use Rattle.std.specs.Option.{option_map, unwrap_or}
use Rattle.std.specs.Prelude.{Bool, List, None, Option, [], false, slice_get, true, ℕ, ◌++◌, ◌∷◌}
use Rattle.tl_dom_spec.specs.HtmlForest.{HtmlForest, comment, doctype, element, has_contents, no_trees, text}
use Rattle.tl_dom_spec.specs.Tags.{Tag}
use Rattle.tl_html_print.specs.Serialized.{parent_below, serialized, unless_void}

pub data Place : Type 0 where
  -- a node with what is below it, and nothing beside it; and the element that it stands in
  a_node : Option Tag → HtmlForest → Place
  -- the contents of a `template`
  the_contents : HtmlForest → Place

abbrev pub contents_places : Bool → HtmlForest → List Place
contents_places true below = the_contents below ∷ []
contents_places false below = []

-- the nodes of trees that stand in an element, or in none
abbrev pub places : Option Tag → HtmlForest → List Place
places parent no_trees = []
places parent (text bytes more) = a_node parent (text bytes no_trees) ∷ places parent more
places parent (comment bytes more) =
    a_node parent (comment bytes no_trees) ∷ places parent more
places parent (doctype own more) = a_node parent (doctype own no_trees) ∷ places parent more
places parent (element tag below more) =
    a_node parent (element tag below no_trees)
    ∷ (contents_places (has_contents tag) below
    ++ (places (parent_below tag) below ++ places parent more))

-- a node with what is below it. Of contents, which are no node that the standard writes, what is
-- in them
abbrev pub outer_of : Bool → Place → List ℕ
outer_of is_scripting (a_node parent tree) = serialized is_scripting parent tree
outer_of is_scripting (the_contents below) = serialized is_scripting None below

-- what is below a node (13.3): of a `template` its contents, and of others than elements nothing
abbrev pub inner_of : Bool → Place → List ℕ
inner_of is_scripting (a_node parent (element tag below more)) =
    unless_void tag (serialized is_scripting (parent_below tag) below)
inner_of is_scripting (a_node parent _) = []
inner_of is_scripting (the_contents below) = serialized is_scripting None below

-- of the node of a number among trees, and nothing where there is none
abbrev pub outer_at : Bool → HtmlForest → ℕ → List ℕ
outer_at is_scripting trees number =
    unwrap_or (option_map (outer_of is_scripting) (slice_get (places None trees) number)) []

abbrev pub inner_at : Bool → HtmlForest → ℕ → List ℕ
inner_at is_scripting trees number =
    unwrap_or (option_map (inner_of is_scripting) (slice_get (places None trees) number)) []
