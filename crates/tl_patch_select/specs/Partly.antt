-- A page with those of some elements changed that can be.
use Rattle.std.specs.List.{list_any}
use Rattle.std.specs.Option.{option_to_list}
use Rattle.std.specs.Prelude.{Bool, List, None, Option, Some, [], false, filter, flat_map, length, map, not, reverse, ℕ, ⊤, ◌-◌, ◌==◌, ◌≡◌}
use Rattle.tl_patch_edit.specs.Apart.{refused_apart, unstarted_in}
use Rattle.tl_patch_edit.specs.declared.error.EditError.{EditError}
use Rattle.tl_patch_edit.specs.declared.error.EditError.TheVariants as edit
use Rattle.tl_patch_spec.specs.Patches.{Patch}
use Rattle.tl_patch_spec.specs.Together.{at_each}
use Rattle.tl_patch_select.specs.NodeEdits.{AreEditsReason}
use Rattle.tl_patch_select.specs.Selected.{ArePlacesOf, first_place, place_of}
use Rattle.tl_patch_select.specs.Whole.{AreCrossed}
use Rattle.tl_patch_select.specs.declared.edit_error.SelectionEditError.{SelectionEditError}
use Rattle.tl_patch_select.specs.declared.edit_error.SelectionEditError.TheVariants as element
use Rattle.tl_patch_select.specs.declared.partly.LeftOut.{LeftOut}
use Rattle.tl_patch_select.specs.declared.whole.Crossed.{Crossed}
use Rattle.tl_tree.specs.TreeView.{rows_in}
use Rattle.tl_tree.specs.declared.tree.Tree.{Tree}

-- before what an element was put in that no tag stands for, in a page of such a length
abbrev pub put_in_at : Tree → ℕ → ℕ → Option ℕ → Option ℕ
put_in_at tree page_len number (Some place) = None
put_in_at tree page_len number None =
    Some (first_place tree page_len number (length (rows_in tree) - number))

-- where those were put in, in the order of the elements
abbrev pub put_in_places : Tree → ℕ → List ℕ → List ℕ
put_in_places tree page_len numbers =
    flat_map (λ n. option_to_list (put_in_at tree page_len n (place_of tree n))) numbers

-- the element that an error speaks of
abbrev pub refused_place : EditError → List ℕ
refused_place (edit.NoStartTag place) = option_to_list (Some place)
refused_place (edit.NotMeant place) = option_to_list (Some place)
refused_place _ = option_to_list None

abbrev pub refused_places : List EditError → List ℕ
refused_places errors = flat_map refused_place errors

abbrev pub crossed_places : List Crossed → List ℕ
crossed_places crossed = map (λ (c : Crossed). c.place) crossed

abbrev pub is_told : List ℕ → ℕ → Bool
is_told told place = list_any (λ other. other == place) told

-- whether an element has a start tag, which begins at none of these places
abbrev pub has_other_place : List ℕ → Option ℕ → Bool
has_other_place told None = false
has_other_place told (Some place) = not (is_told told place)

abbrev pub others : Tree → List ℕ → List ℕ → List ℕ
others tree told numbers = filter (λ n. has_other_place told (place_of tree n)) numbers

-- this patch of each of these elements
abbrev pub patched_each : Patch → List ℕ → List (ℕ × Patch)
patched_each patch numbers = map (λ n. (n, patch)) numbers

-- why this patch of these elements is refused, of each of which it is so by itself
pub record AreRefusedOf (patch : Patch) (tree : Tree) (page numbers : List ℕ)
    (errors : List EditError) : Type 0 where
  pub places : List ℕ
  pub are_places : ArePlacesOf tree numbers places
  pub refused : errors ≡ refused_apart page (at_each patch places)

-- these are the places of these elements at which no start tag begins, though one stands there in
-- the tree
pub record AreUnstartedOf (tree : Tree) (page numbers unstarted : List ℕ) : Type 0 where
  pub places : List ℕ
  pub are_places : ArePlacesOf tree numbers places
  pub lack : unstarted ≡ unstarted_in page places

-- of some elements those are left whose tags can be changed: those with a start tag, but where no
-- start tag begins by the tokenizer by itself
pub record AreTagged (tree : Tree) (page numbers left : List ℕ) (out : LeftOut) : Type 0 where
  pub unstarted : List ℕ
  pub are_unstarted : AreUnstartedOf tree page numbers unstarted
  pub is_left : left ≡ others tree unstarted numbers
  pub whole : out.crossed.items ≡ []
  pub told : out.refused.items ≡ map edit.NoStartTag unstarted

-- which of some elements aren't changed, and why
pub record AreLeftOut (patch : Patch) (tree : Tree) (page numbers : List ℕ) (out : LeftOut)
    : Type 0 where
  -- no tag stands for them
  pub put_in : out.untagged.items ≡ put_in_places tree (length page) (reverse numbers)
  -- they aren't whole
  pub not_whole : AreCrossed page tree (reverse numbers) out.crossed.items
  -- the patch of the others is refused
  pub errors : AreRefusedOf patch tree page
      (others tree (crossed_places out.crossed.items) numbers)
      out.refused.items

-- the elements that are left: those that have a start tag of which none of these reasons speaks
abbrev pub left_over : Tree → List ℕ → LeftOut → List ℕ
left_over tree numbers out =
    others tree (refused_places out.refused.items)
    (others tree (crossed_places out.crossed.items) numbers)

-- the patch of the elements that are left is refused
pub record IsRestRefusedFor (patch : Patch) (tree : Tree) (page numbers : List ℕ)
    (error : SelectionEditError) : Type 0 where
  pub out : LeftOut
  pub left_out : AreLeftOut patch tree page numbers out
  pub reason : AreEditsReason (patched_each patch (left_over tree numbers out)) tree page error

-- nothing is said of when memory runs out
abbrev pub IsRestRefused : Patch → Tree → List ℕ → List ℕ → SelectionEditError → Type 0
IsRestRefused patch tree page numbers element.OutOfMemory = ⊤
IsRestRefused patch tree page numbers error = IsRestRefusedFor patch tree page numbers error
