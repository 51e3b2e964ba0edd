-- Elements that are nodes changed in the page of the document that is held, if one is.
use Rattle.std.specs.Prelude.{◌≡◌, ◌∷◌, Bool, List, None, Option, Some, [], flat_map, is_some, option_map, true, ℕ, ◌&&◌}
use Rattle.std.specs.Option.{option_to_list}
use Rattle.tl_patch_select.specs.NodeEdits.{AreEditsReason, AreNodesEdited}
use Rattle.tl_patch_select.specs.declared.edit_error.SelectionEditError.{SelectionEditError}
use Rattle.tl_patch_spec.specs.Patches.{Patch}
use Rattle.tl_page.specs.Outcome.{Outcome, success}
use Rattle.tl_c.specs.Edits.{IsEditRefusal, number_of_edit_error, patch_of_number, place_of_edit_error}
use Rattle.tl_c.specs.Puts.{Puts}
use Rattle.tl_c.specs.declared.lent_edit.LentEdit.{LentEdit}
use Rattle.tl_c.specs.declared.parsed_page.ParsedPage.{ParsedPage}
use Rattle.tl_tree.specs.declared.tree.Tree.{Tree}

-- the number of a node and the patch that is lent, if its numbers ask for one
abbrev pub edit_lent : LentEdit → Option (ℕ × Patch)
edit_lent e =
    option_map (λ patch. (e.node, patch)) (patch_of_number e.edit e.form e.content.now)

-- those of several, in order
abbrev pub edits_lent : List LentEdit → List (ℕ × Patch)
edits_lent lent = flat_map (λ e. option_to_list (edit_lent e)) lent

-- whether the numbers of each ask for a patch
abbrev pub are_edits : List LentEdit → Bool
are_edits [] = true
are_edits (e ∷ lent) = is_some (edit_lent e) && are_edits lent

-- text is the page with these patches of elements that are nodes of a tree, and of nothing else
pub record AreDone (edits : List (ℕ × Patch)) (tree : Tree) (page text : List ℕ) : Type 0 where
  pub places : List ℕ
  pub edited : AreNodesEdited edits tree page text places

-- the same of the document that is held, and of patches that are lent; without a document, and
-- where one is none, nothing is given
pub record AreLentDone (lent : List LentEdit) (tree : Tree) (page text : List ℕ) : Type 0 where
  pub asked : are_edits lent ≡ true
  pub made : AreDone (edits_lent lent) tree page text

abbrev pub AreHeldDone : List LentEdit → Option ParsedPage → List ℕ → List ℕ → Type 0
AreHeldDone lent None page text = ⊥
AreHeldDone lent (Some own) page text = AreLentDone lent own.tree page text

-- these patches are refused in a page with this tree, where and why the numbers say
pub record AreNotDone (edits : List (ℕ × Patch)) (tree : Tree) (page : List ℕ)
    (place cause : ℕ) : Type 0 where
  pub error : SelectionEditError
  pub refused : AreEditsReason edits tree page error
  pub reason : IsEditRefusal error
  pub stands : place ≡ place_of_edit_error error
  pub why : cause ≡ number_of_edit_error error

-- the same of the document that is held; without one nothing is said
abbrev pub AreHeldNotDone : List LentEdit → Option ParsedPage → List ℕ → ℕ → ℕ → Type 0
AreHeldNotDone lent None page place cause = (place ≡ 0) × (cause ≡ 0)
AreHeldNotDone lent (Some own) page place cause =
    AreNotDone (edits_lent lent) own.tree page place cause

-- an outcome is put into room (old, and new after the call); its text, if it has one, is the page
-- with the patches
pub record PutsDone (lent : List LentEdit) (held : Option ParsedPage) (page old new : List ℕ)
    (needed status : ℕ) : Type 0 where
  pub outcome : Outcome (List ℕ)
  pub put : Puts outcome old new needed status
  pub made : (text : List ℕ) → outcome ≡ success text → AreHeldDone lent held page text
