-- Elements of a page changed where a selector of CSS holds.
use Rattle.std.specs.Prelude.{◌≡◌, ◌==◌, ℕ, List, Option, None, Some, option_and_then, if◌then◌else◌, ⊤}
use Rattle.tl_css.specs.Selector.{Css}
use Rattle.tl_page.specs.Outcome.{Outcome, success}
use Rattle.tl_patch_edit.specs.declared.error.EditError.TheVariants as edit
use Rattle.tl_patch_select.specs.Edited.{IsEditedWhere}
use Rattle.tl_patch_select.specs.Reasons.{IsElementReason}
use Rattle.tl_patch_select.specs.declared.edit_error.SelectionEditError.{SelectionEditError}
use Rattle.tl_patch_select.specs.declared.edit_error.SelectionEditError.TheVariants.{NotWhole, OutOfMemory, Refused, Untagged}
use Rattle.tl_patch_spec.specs.Patches.{Append, Content, Fill, Markup, Patch, Prepend, PutAfter, PutBefore, Remove, RenameElement, ReplaceWith, Text, Unwrap}
use Rattle.tl_c.specs.Css.{css_in}
use Rattle.tl_c.specs.Puts.{Puts}
use Rattle.tl_tree.specs.Pages.{IsOfPage}
use Rattle.tl_tree.specs.declared.tree.Tree.{Tree}

-- the content that bytes are, as a number says
abbrev pub content_of_number : ℕ → List ℕ → Option Content
content_of_number form content =
    if form == 0 then Some (Text content)
    else if form == 1 then Some (Markup content)
    else None

-- the patch by which content is put, that a number asks for
abbrev pub placed_of_number : ℕ → Content → Option Patch
placed_of_number number content =
    if number == 3 then Some (ReplaceWith content)
    else if number == 4 then Some (Fill content)
    else if number == 5 then Some (Prepend content)
    else if number == 6 then Some (Append content)
    else if number == 7 then Some (PutBefore content)
    else if number == 8 then Some (PutAfter content)
    else None

-- the patch that a number asks for, by the number of what the bytes are; a name is one for itself
abbrev pub patch_of_number : ℕ → ℕ → List ℕ → Option Patch
patch_of_number number form content =
    if number == 0 then Some (RenameElement content)
    else if number == 1 then Some Remove
    else if number == 2 then Some Unwrap
    else option_and_then (placed_of_number number) (content_of_number form content)

-- text is the page with this patch of each element where the selector that bytes are holds
pub record IsEditedBy (selector : List ℕ) (patch : Patch) (page text : List ℕ) : Type 0 where
  pub css : Css
  pub reads : css_in selector ≡ success css
  pub tree : Tree
  pub of_page : IsOfPage page tree
  pub places : List ℕ
  pub edited : IsEditedWhere css patch tree page text places

-- the same of a patch that may not be one: then nothing is given
abbrev pub IsEditedIf : List ℕ → Option Patch → List ℕ → List ℕ → Type 0
IsEditedIf selector None page text = ⊥
IsEditedIf selector (Some patch) page text = IsEditedBy selector patch page text

-- the number in the header of why an element isn't changed, 0 where that is said by the status
abbrev pub number_of_edit_error : SelectionEditError → ℕ
number_of_edit_error (Refused (edit.NoStartTag place)) = 16
number_of_edit_error (Refused (edit.NotMeant place)) = 19
number_of_edit_error (Refused (edit.Across place)) = 20
number_of_edit_error (Refused (edit.EndOfPage place)) = 21
number_of_edit_error (Refused (edit.NotWritten place)) = 22
number_of_edit_error (Refused (edit.Misread place cause)) = 23
number_of_edit_error (Refused (edit.ReadOtherwise place)) = 18
number_of_edit_error (Refused edit.OutOfMemory) = 0
number_of_edit_error (Untagged at) = 24
number_of_edit_error (NotWhole place at) = 25
number_of_edit_error OutOfMemory = 0

-- where in the page the element begins, or what crosses it, 0 where there is none
abbrev pub place_of_edit_error : SelectionEditError → ℕ
place_of_edit_error (Refused (edit.NoStartTag place)) = place
place_of_edit_error (Refused (edit.NotMeant place)) = place
place_of_edit_error (Refused (edit.Across place)) = place
place_of_edit_error (Refused (edit.EndOfPage place)) = place
place_of_edit_error (Refused (edit.NotWritten place)) = place
place_of_edit_error (Refused (edit.Misread place cause)) = place
place_of_edit_error (Refused (edit.ReadOtherwise place)) = place
place_of_edit_error (Refused edit.OutOfMemory) = 0
place_of_edit_error (Untagged at) = at
place_of_edit_error (NotWhole place at) = at
place_of_edit_error OutOfMemory = 0

-- an error that is told by its number and its place, and not by the status
abbrev pub IsEditRefusal : SelectionEditError → Type 0
IsEditRefusal (Refused error) = ⊤
IsEditRefusal (Untagged at) = ⊤
IsEditRefusal (NotWhole place at) = ⊤
IsEditRefusal _ = ⊥

-- this patch of the elements where the selector that bytes are holds is refused, where and why the
-- numbers say
pub record IsEditRefused (selector : List ℕ) (patch : Option Patch) (page : List ℕ)
    (place cause : ℕ) : Type 0 where
  pub css : Css
  pub reads : css_in selector ≡ success css
  pub asked : Patch
  pub is : patch ≡ Some asked
  pub error : SelectionEditError
  pub tree : Tree
  pub of_page : IsOfPage page tree
  pub refused : IsElementReason css asked tree page error
  pub reason : IsEditRefusal error
  pub stands : place ≡ place_of_edit_error error
  pub why : cause ≡ number_of_edit_error error

-- an outcome is put into room (old, and new after the call); its text, if it has one, is the page
-- with the elements changed
pub record PutsEdited (selector : List ℕ) (patch : Option Patch) (page old new : List ℕ)
    (needed status : ℕ) : Type 0 where
  pub outcome : Outcome (List ℕ)
  pub put : Puts outcome old new needed status
  pub edited : (text : List ℕ) → outcome ≡ success text → IsEditedIf selector patch page text
