-- Tags of nodes changed in the page of the document that is held, if one is.
use Rattle.std.specs.Prelude.{◌≡◌, ◌∷◌, Bool, List, None, Option, Some, [], flat_map, is_some, option_map, true, ℕ, ◌&&◌}
use Rattle.std.specs.Option.{option_to_list}
use Rattle.tl_patch_select.specs.Nodes.{AreNodesPatched, ChangeOf}
use Rattle.tl_patch_select.specs.Reasons.{AreNodesReason}
use Rattle.tl_patch_select.specs.declared.error.SelectionPatchError.{SelectionPatchError}
use Rattle.tl_patch_spec.specs.TagChanges.{TagChange}
use Rattle.tl_page.specs.Outcome.{Outcome, success}
use Rattle.tl_c.specs.Patches.{IsChangeRefusal, change_of_number, number_of_patch_error, place_of_patch_error}
use Rattle.tl_c.specs.Puts.{Puts}
use Rattle.tl_c.specs.declared.lent_change.LentChange.{LentChange}
use Rattle.tl_c.specs.declared.parsed_page.ParsedPage.{ParsedPage}
use Rattle.tl_tree.specs.declared.tree.Tree.{Tree}

abbrev pub change_at : ℕ → TagChange → ChangeOf
change_at number change = record { number = number; change = change }

-- the change that is lent, if its number asks for one
abbrev pub change_lent : LentChange → Option ChangeOf
change_lent c =
    option_map (change_at c.node) (change_of_number c.change c.key.now c.value.now)

-- those of several, in order
abbrev pub changes_lent : List LentChange → List ChangeOf
changes_lent lent = flat_map (λ c. option_to_list (change_lent c)) lent

-- whether the number of each asks for a change
abbrev pub are_changes : List LentChange → Bool
are_changes [] = true
are_changes (c ∷ lent) = is_some (change_lent c) && are_changes lent

-- text is the page with these changes of the tags of nodes of a tree, and of nothing else
pub record AreMade (changes : List ChangeOf) (tree : Tree) (page text : List ℕ) : Type 0 where
  pub places : List ℕ
  pub patched : AreNodesPatched changes tree page text places

-- the same of the document that is held, and of changes that are lent; without a document, and
-- where one is none, nothing is given
pub record AreLentMade (lent : List LentChange) (tree : Tree) (page text : List ℕ) : Type 0 where
  pub asked : are_changes lent ≡ true
  pub made : AreMade (changes_lent lent) tree page text

abbrev pub AreHeldMade : List LentChange → Option ParsedPage → List ℕ → List ℕ → Type 0
AreHeldMade lent None page text = ⊥
AreHeldMade lent (Some own) page text = AreLentMade lent own.tree page text

-- these changes are refused in a page with this tree, where and why the numbers say
pub record AreRefused (changes : List ChangeOf) (tree : Tree) (page : List ℕ) (place cause : ℕ) :
    Type 0 where
  pub error : SelectionPatchError
  pub refused : AreNodesReason changes tree page error
  pub reason : IsChangeRefusal error
  pub stands : place ≡ place_of_patch_error error
  pub why : cause ≡ number_of_patch_error error

-- the same of the document that is held; without one nothing is said
abbrev pub AreHeldRefused : List LentChange → Option ParsedPage → List ℕ → ℕ → ℕ → Type 0
AreHeldRefused lent None page place cause = (place ≡ 0) × (cause ≡ 0)
AreHeldRefused lent (Some own) page place cause =
    AreRefused (changes_lent lent) own.tree page place cause

-- an outcome is put into room (old, and new after the call); its text, if it has one, is the page
-- with the changes
pub record PutsMade (lent : List LentChange) (held : Option ParsedPage) (page old new : List ℕ)
    (needed status : ℕ) : Type 0 where
  pub outcome : Outcome (List ℕ)
  pub put : Puts outcome old new needed status
  pub made : (text : List ℕ) → outcome ≡ success text → AreHeldMade lent held page text
