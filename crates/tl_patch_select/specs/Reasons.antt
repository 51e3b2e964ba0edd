-- Why tags and elements where a selector holds are not changed, by the error.
use Rattle.std.specs.Prelude.{List, Some, length, ℕ, ◌≡◌, ⊤}
use Rattle.tl_css.specs.Selector.{Css}
use Rattle.tl_patch.specs.declared.error.PatchError.TheVariants as patch
use Rattle.tl_patch_spec.specs.Patches.{Patch}
use Rattle.tl_patch_spec.specs.TagChanges.{TagChange}
use Rattle.tl_patch_select.specs.Edited.{IsRefusedWhere}
use Rattle.tl_patch_select.specs.Nodes.{AreNodesRefused, ChangeOf, lacking_at}
use Rattle.tl_patch_select.specs.Patched.{IsChangeRefusedWhere, missing_tag}
use Rattle.tl_patch_select.specs.Selected.{IsUntagged}
use Rattle.tl_patch_select.specs.Whole.{IsNotWhole}
use Rattle.tl_patch_select.specs.declared.edit_error.SelectionEditError.{SelectionEditError}
use Rattle.tl_patch_select.specs.declared.edit_error.SelectionEditError.TheVariants as element
use Rattle.tl_patch_select.specs.declared.error.SelectionPatchError.{SelectionPatchError}
use Rattle.tl_patch_select.specs.declared.error.SelectionPatchError.TheVariants as tag
use Rattle.tl_tree.specs.declared.tree.Tree.{Tree}
use Rattle.tl_tree_select.specs.Meaning.{AreFound}
use Rattle.tl_tree_select.specs.Page.{page_of}

-- of the elements where the selector holds the first that needs a tag and has none was put in there
pub record IsUntaggedFor (e : Css) (change : TagChange) (tree : Tree) (page_len at : ℕ) : Type 0
  where
    pub numbers : List ℕ
    pub found : AreFound (page_of tree) e numbers
    pub is : missing_tag change tree page_len numbers ≡ Some at

-- why the tags don't get this change; nothing is said of when memory runs out
abbrev pub IsTagReason : Css → TagChange → Tree → List ℕ → SelectionPatchError → Type 0
IsTagReason e change tree page (tag.Untagged at) = IsUntaggedFor e change tree (length page) at
IsTagReason e change tree page (tag.NoStartTag place) =
    IsChangeRefusedWhere e change tree page (patch.NoStartTag place)
IsTagReason e change tree page (tag.NotWritten place) =
    IsChangeRefusedWhere e change tree page (patch.NotWritten place)
IsTagReason e change tree page tag.OutOfMemory = ⊤

-- why the elements don't get this patch
abbrev pub IsElementReason : Css → Patch → Tree → List ℕ → SelectionEditError → Type 0
IsElementReason e patch tree page (element.Refused error) = IsRefusedWhere e patch tree page error
IsElementReason e patch tree page (element.Untagged at) = IsUntagged e tree (length page) at
IsElementReason e patch tree page (element.NotWhole place at) = IsNotWhole e tree page place at
IsElementReason e patch tree page element.OutOfMemory = ⊤

-- why the tags of nodes don't get these changes
abbrev pub AreNodesReason : List ChangeOf → Tree → List ℕ → SelectionPatchError → Type 0
AreNodesReason changes tree page (tag.Untagged at) =
    lacking_at tree (length page) changes ≡ Some at
AreNodesReason changes tree page (tag.NoStartTag place) =
    AreNodesRefused changes tree page (patch.NoStartTag place)
AreNodesReason changes tree page (tag.NotWritten place) =
    AreNodesRefused changes tree page (patch.NotWritten place)
AreNodesReason changes tree page tag.OutOfMemory = ⊤
