-- A page with elements of its tree changed, each by a patch of its own.
use Rattle.std.specs.List.{All, Contains}
use Rattle.std.specs.List.Sorted.{IsNonDecreasingBy, IsStableByKey, IsStrictlyIncreasing}
use Rattle.std.specs.Option.{option_map, option_to_list}
use Rattle.std.specs.Ordering.{nat_cmp}
use Rattle.std.specs.Prelude.{List, None, Option, Some, flat_map, length, map, ℕ, ◌≡◌, ⊤}
use Rattle.tl_patch_edit.specs.Errors.{IsRefused}
use Rattle.tl_patch_edit.specs.Kept.{KeepRawTexts}
use Rattle.tl_patch_edit.specs.Several.{AreEdited}
use Rattle.tl_patch_edit.specs.View.{patch_view}
use Rattle.tl_patch_edit.specs.declared.error.EditError.{EditError}
use Rattle.tl_patch_spec.specs.Patches.{Patch}
use Rattle.tl_patch_select.specs.Edited.{IsEditReason}
use Rattle.tl_patch_select.specs.Selected.{ArePlacesOf, place_of, untagged_at}
use Rattle.tl_patch_select.specs.Whole.{IsOneCrossed, IsWhole}
use Rattle.tl_patch_select.specs.declared.edit_error.SelectionEditError.{SelectionEditError}
use Rattle.tl_patch_select.specs.declared.edit_error.SelectionEditError.TheVariants as element
use Rattle.tl_patch_select.specs.declared.node_edit.NodeEdit.{NodeEdit}
use Rattle.tl_tree.specs.declared.tree.Tree.{Tree}

-- the number of a node, and the patch of its element
abbrev pub edit_of : NodeEdit → ℕ × Patch
edit_of e = (e.number, patch_view e.patch)

abbrev pub edited_number : ℕ × Patch → ℕ
edited_number e = e.0

-- the patch with the place of the start tag, if one stands for the node
abbrev pub placed_edit : Tree → ℕ × Patch → Option (ℕ × Patch)
placed_edit tree e = option_map (λ place. (place, e.1)) (place_of tree e.0)

-- those of nodes, in the order of the patches
abbrev pub placed_edits : Tree → List (ℕ × Patch) → List (ℕ × Patch)
placed_edits tree edits = flat_map (λ e. option_to_list (placed_edit tree e)) edits

-- these are those in the order of their places; those of one place keep their order
pub record AreEditsInOrder (edits sorted : List (ℕ × Patch)) : Type 0 where
  pub rising : IsNonDecreasingBy edited_number sorted
  pub stable : IsStableByKey edited_number nat_cmp edits sorted

-- these are the numbers of the nodes, in order, and each once
pub record AreNumbersOf (edits : List (ℕ × Patch)) (numbers : List ℕ) : Type 0 where
  pub rising : IsStrictlyIncreasing numbers
  pub kept : (n : ℕ) → Contains (map edited_number edits) n → Contains numbers n
  pub none_added : (n : ℕ) → Contains numbers n → Contains (map edited_number edits) n

-- text is the page with these patches of the elements that are these nodes, and of nothing else;
-- the places are those of their start tags
pub record AreNodesEdited (edits : List (ℕ × Patch)) (tree : Tree) (page text places : List ℕ) :
    Type 0 where
  pub numbers : List ℕ
  pub are_numbers : AreNumbersOf edits numbers
  pub tagged : untagged_at tree (length page) numbers ≡ None
  -- what is taken and put stands where the tree has it
  pub whole : All (IsWhole page tree) numbers
  pub are_places : ArePlacesOf tree numbers places
  pub sorted : List (ℕ × Patch)
  pub in_order : AreEditsInOrder (placed_edits tree edits) sorted
  pub edited : AreEdited sorted page text
  -- what may be read as markup is put into no raw text
  pub kept : KeepRawTexts sorted page

-- the first of the nodes that no tag stands for was put in there
pub record IsOneUntagged (edits : List (ℕ × Patch)) (tree : Tree) (page_len at : ℕ) : Type 0 where
  pub numbers : List ℕ
  pub are_numbers : AreNumbersOf edits numbers
  pub is : untagged_at tree page_len numbers ≡ Some at

-- the element that is one of the nodes isn't whole
pub record IsOneNotWhole (edits : List (ℕ × Patch)) (tree : Tree) (page : List ℕ)
    (place at : ℕ) : Type 0 where
  pub numbers : List ℕ
  pub are_numbers : AreNumbersOf edits numbers
  pub one : IsOneCrossed page tree numbers place at

-- these patches are refused, and for this reason
pub record AreEditsRefused (edits : List (ℕ × Patch)) (tree : Tree) (page : List ℕ)
    (error : EditError) : Type 0 where
  pub sorted : List (ℕ × Patch)
  pub in_order : AreEditsInOrder (placed_edits tree edits) sorted
  pub refused : IsRefused page sorted error
  pub reason : IsEditReason error

-- why the elements don't get these patches
abbrev pub AreEditsReason : List (ℕ × Patch) → Tree → List ℕ → SelectionEditError → Type 0
AreEditsReason edits tree page (element.Refused error) = AreEditsRefused edits tree page error
AreEditsReason edits tree page (element.Untagged at) = IsOneUntagged edits tree (length page) at
AreEditsReason edits tree page (element.NotWhole place at) =
    IsOneNotWhole edits tree page place at
AreEditsReason edits tree page element.OutOfMemory = ⊤
