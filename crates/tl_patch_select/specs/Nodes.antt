-- A page with the tags of nodes of its tree changed.
use Rattle.std.specs.List.Sorted.{IsNonDecreasingBy, IsStableByKey}
use Rattle.std.specs.Option.{is_none, option_map, option_to_list}
use Rattle.std.specs.Ordering.{nat_cmp}
use Rattle.std.specs.Prelude.{Bool, List, None, Option, Some, [], false, flat_map, if◌then◌else◌, length, map, true, ℕ, ◌&&◌, ◌-◌, ◌∷◌, ◌≡◌}
use Rattle.tl_patch.specs.Pages.{IsPatched}
use Rattle.tl_patch.specs.PatchView.{PlacedChange, change_view}
use Rattle.tl_patch.specs.Refused.{IsReason}
use Rattle.tl_patch.specs.declared.error.PatchError.{PatchError}
use Rattle.tl_patch_spec.specs.TagChanges.{Set, TagChange}
use Rattle.tl_patch_select.specs.Selected.{ArePlacesOf, first_place, place_of}
use Rattle.tl_patch_select.specs.declared.node_change.NodeChange.{NodeChange}
use Rattle.tl_tree.specs.TreeView.{rows_in}
use Rattle.tl_tree.specs.declared.tree.Tree.{Tree}

-- a change of the tag of a node
pub record ChangeOf : Type 0 where
  pub number : ℕ
  pub change : TagChange

abbrev pub change_of : NodeChange → ChangeOf
change_of c = record { number = c.number; change = change_view c.change }

abbrev pub number_of : ChangeOf → ℕ
number_of c = c.number

-- it with the place of the tag, if one stands for the node
abbrev pub placed : Tree → ChangeOf → Option PlacedChange
placed tree c =
    option_map (λ place. record { place = place; change = c.change }) (place_of tree c.number)

-- those of nodes, in the order of the changes
abbrev pub all_placed : Tree → List ChangeOf → List PlacedChange
all_placed tree changes = flat_map (λ c. option_to_list (placed tree c)) changes

abbrev pub place_in : PlacedChange → ℕ
place_in c = c.place

-- these are those in the order of their places; those of one place keep their order
pub record AreInOrder (changes sorted : List PlacedChange) : Type 0 where
  pub rising : IsNonDecreasingBy place_in sorted
  pub stable : IsStableByKey place_in nat_cmp changes sorted

-- a key can get a value in a tag alone; where none stands for a node, none is there that could go
abbrev pub needs_tag : TagChange → Bool
needs_tag (Set key value) = true
needs_tag _ = false

abbrev pub lacks_tag : Tree → ChangeOf → Bool
lacks_tag tree c = needs_tag c.change && is_none (place_of tree c.number)

-- the first node that lacks the tag that its change needs
abbrev pub first_lacking : Tree → List ChangeOf → Option ℕ
first_lacking tree [] = None
first_lacking tree (c ∷ changes) =
    if lacks_tag tree c then Some c.number else first_lacking tree changes

-- where it was put in, in a page of such a length: before what begins there
abbrev pub lacking_at : Tree → ℕ → List ChangeOf → Option ℕ
lacking_at tree page_len changes =
    option_map
    (λ number. first_place tree page_len number (length (rows_in tree) - number))
    (first_lacking tree changes)

-- text is the page with these changes of the tags of nodes, and of nothing else; the places are
-- those of these tags
pub record AreNodesPatched (changes : List ChangeOf) (tree : Tree) (page text places : List ℕ)
    : Type 0 where
  pub sorted : List PlacedChange
  pub in_order : AreInOrder (all_placed tree changes) sorted
  pub tagged : lacking_at tree (length page) changes ≡ None
  pub patched : IsPatched sorted page text
  pub are_places : ArePlacesOf tree (map number_of changes) places

-- these changes are refused, and for this reason
pub record AreNodesRefused (changes : List ChangeOf) (tree : Tree) (page : List ℕ)
    (error : PatchError) : Type 0 where
  pub sorted : List PlacedChange
  pub in_order : AreInOrder (all_placed tree changes) sorted
  pub refused : IsReason sorted page error
