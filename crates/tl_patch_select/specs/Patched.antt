-- A page with the tags changed where a selector holds.
use Rattle.std.specs.Prelude.{◌≡◌, ℕ, List, None, Option, length, map}
use Rattle.tl_css.specs.Selector.{Css}
use Rattle.tl_patch.specs.Pages.{IsPatched}
use Rattle.tl_patch.specs.Refused.{IsReason}
use Rattle.tl_patch.specs.PatchView.{PlacedChange}
use Rattle.tl_patch.specs.declared.error.PatchError.{PatchError}
use Rattle.tl_patch_spec.specs.TagChanges.{Set, TagChange}
use Rattle.tl_patch_select.specs.Selected.{AreSelected, untagged_at}
use Rattle.tl_tree.specs.declared.tree.Tree.{Tree}

-- a change at each of these places
abbrev pub changes_at : TagChange → List ℕ → List PlacedChange
changes_at change places = map (λ place. record { place = place; change = change }) places

-- an element that no tag stands for can't get a key, and has none that could go: where the first
-- of those was put in to which that matters
abbrev pub missing_tag : TagChange → Tree → ℕ → List ℕ → Option ℕ
missing_tag (Set key value) tree page_len numbers = untagged_at tree page_len numbers
missing_tag _ tree page_len numbers = None

-- text is the page with this change of each element of the tree where the selector holds, and of
-- nothing else; the places are those of their start tags in the page
pub record IsPatchedWhere (e : Css) (change : TagChange) (tree : Tree)
    (page text places : List ℕ) : Type 0 where
  pub selected : AreSelected e tree places
  pub tagged : missing_tag change tree (length page) selected.numbers ≡ None
  pub patched : IsPatched (changes_at change places) page text

-- this change of the start tag of each element where the selector holds is refused, and for this
-- reason
pub record IsChangeRefusedWhere (e : Css) (change : TagChange) (tree : Tree) (page : List ℕ)
    (error : PatchError) : Type 0 where
  pub places : List ℕ
  pub selected : AreSelected e tree places
  pub refused : IsReason (changes_at change places) page error
