-- Tags of a page changed where a selector of CSS holds.
use Rattle.std.specs.Prelude.{◌≡◌, ◌==◌, ℕ, List, Option, None, Some, if◌then◌else◌, ⊤}
use Rattle.tl_css.specs.Selector.{Css}
use Rattle.tl_page.specs.Outcome.{Outcome, success}
use Rattle.tl_patch_select.specs.Patched.{IsPatchedWhere}
use Rattle.tl_patch_select.specs.Reasons.{IsTagReason}
use Rattle.tl_patch_select.specs.declared.error.SelectionPatchError.{SelectionPatchError}
use Rattle.tl_patch_select.specs.declared.error.SelectionPatchError.TheVariants.{NoStartTag, NotWritten, OutOfMemory, Untagged}
use Rattle.tl_patch_spec.specs.TagChanges.{Set, TagChange, Unset}
use Rattle.tl_c.specs.Css.{css_in}
use Rattle.tl_c.specs.Puts.{Puts}
use Rattle.tl_tree.specs.Pages.{IsOfPage}
use Rattle.tl_tree.specs.declared.tree.Tree.{Tree}

-- the change that a number asks for
abbrev pub change_of_number : ℕ → List ℕ → List ℕ → Option TagChange
change_of_number number key value =
    if number == 0 then Some (Set key value)
    else if number == 1 then Some (Unset key)
    else None

-- text is the page with this change of each element where the selector that bytes are holds
pub record IsPatchedBy (selector : List ℕ) (change : TagChange) (page text : List ℕ) : Type 0 where
  pub css : Css
  pub reads : css_in selector ≡ success css
  pub tree : Tree
  pub of_page : IsOfPage page tree
  pub places : List ℕ
  pub patched : IsPatchedWhere css change tree page text places

-- the same of a change that may not be one: then nothing is given
abbrev pub IsPatchedIf : List ℕ → Option TagChange → List ℕ → List ℕ → Type 0
IsPatchedIf selector None page text = ⊥
IsPatchedIf selector (Some change) page text = IsPatchedBy selector change page text

-- the number in the header of why the tags aren't changed, 0 where that is said by the status
abbrev pub number_of_patch_error : SelectionPatchError → ℕ
number_of_patch_error (NoStartTag place) = 16
number_of_patch_error (NotWritten place) = 17
number_of_patch_error (Untagged at) = 24
number_of_patch_error OutOfMemory = 0

-- where in the page it is, 0 where it is nowhere
abbrev pub place_of_patch_error : SelectionPatchError → ℕ
place_of_patch_error (NoStartTag place) = place
place_of_patch_error (NotWritten place) = place
place_of_patch_error (Untagged at) = at
place_of_patch_error OutOfMemory = 0

-- an error that is told by its number and its place, and not by the status
abbrev pub IsChangeRefusal : SelectionPatchError → Type 0
IsChangeRefusal (Untagged at) = ⊤
IsChangeRefusal (NoStartTag place) = ⊤
IsChangeRefusal (NotWritten place) = ⊤
IsChangeRefusal _ = ⊥

-- this change where the selector that bytes are holds is refused, where and why the numbers say
pub record IsPatchRefused (selector : List ℕ) (change : Option TagChange) (page : List ℕ)
    (place cause : ℕ) : Type 0 where
  pub css : Css
  pub reads : css_in selector ≡ success css
  pub asked : TagChange
  pub is : change ≡ Some asked
  pub error : SelectionPatchError
  pub tree : Tree
  pub of_page : IsOfPage page tree
  pub refused : IsTagReason css asked tree page error
  pub reason : IsChangeRefusal error
  pub stands : place ≡ place_of_patch_error error
  pub why : cause ≡ number_of_patch_error error

-- an outcome is put into room (old, and new after the call); its text, if it has one, is the page
-- with the change
pub record PutsPatched (selector : List ℕ) (change : Option TagChange) (page old new : List ℕ)
    (needed status : ℕ) : Type 0 where
  pub outcome : Outcome (List ℕ)
  pub put : Puts outcome old new needed status
  pub patched : (text : List ℕ) → outcome ≡ success text → IsPatchedIf selector change page text
