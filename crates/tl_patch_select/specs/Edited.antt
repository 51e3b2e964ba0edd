-- A page with the elements changed where a selector holds.
use Rattle.std.specs.Prelude.{ℕ, List, None, length, ◌≡◌, ⊤}
use Rattle.std.specs.List.{All}
use Rattle.tl_css.specs.Selector.{Css}
use Rattle.tl_patch_edit.specs.Errors.{IsRefused}
use Rattle.tl_patch_edit.specs.Kept.{KeepRawTexts}
use Rattle.tl_patch_edit.specs.Several.{AreEdited}
use Rattle.tl_patch_edit.specs.declared.error.EditError.{EditError}
use Rattle.tl_patch_edit.specs.declared.error.EditError.TheVariants as edit
use Rattle.tl_patch_spec.specs.Patches.{Patch}
use Rattle.tl_patch_spec.specs.Together.{at_each}
use Rattle.tl_patch_select.specs.Selected.{AreSelected, untagged_at}
use Rattle.tl_patch_select.specs.Whole.{IsWhole}
use Rattle.tl_tree.specs.declared.tree.Tree.{Tree}

-- text is the page with this patch of each element of the tree where the selector holds, and of
-- nothing else; the places are those of their start tags in the page
pub record IsEditedWhere (e : Css) (patch : Patch) (tree : Tree) (page text places : List ℕ) :
    Type 0 where
  pub selected : AreSelected e tree places
  pub tagged : untagged_at tree (length page) selected.numbers ≡ None
  -- what is taken and put stands where the tree has it
  pub whole : All (IsWhole page tree) selected.numbers
  pub edited : AreEdited (at_each patch places) page text
  -- what may be read as markup is put into no raw text
  pub kept : KeepRawTexts (at_each patch places) page

-- want of memory is no reason
abbrev pub IsEditReason : EditError → Type 0
IsEditReason edit.OutOfMemory = ⊥
IsEditReason _ = ⊤

-- this patch of each element where the selector holds is refused, and for this reason
pub record IsRefusedWhere (e : Css) (patch : Patch) (tree : Tree) (page : List ℕ)
    (error : EditError) : Type 0 where
  pub places : List ℕ
  pub selected : AreSelected e tree places
  pub refused : IsRefused page (at_each patch places) error
  pub reason : IsEditReason error
