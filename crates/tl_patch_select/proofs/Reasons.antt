-- Why an edit is refused.
use Rattle.std.proofs.Common.{List, None, Option, Some, subst, ℕ, ◌≡◌}
use Rattle.std.proofs.lemmas.Option.{MatchOption-at_none, MatchOption-at_some}
use Rattle.std.specs.List.{All}
use Rattle.std.specs.Prelude.{Err, IfNone, IfSome, Result}
use Rattle.tl_css.specs.Selector.{Css}
use Rattle.tl_patch.specs.PatchView.{PlacedChange}
use Rattle.tl_patch.specs.Refused.{IsPlaced, IsReason, IsUnplaced}
use Rattle.tl_patch.specs.declared.error.PatchError.{PatchError}
use Rattle.tl_patch.specs.declared.error.PatchError.TheVariants as page_error
use Rattle.tl_patch_edit.specs.Errors.{CannotBeMeant, CannotBeRead, CannotBeWritten, IsRefused, LacksStartTag, MayBeMisread, StandAcross, StandsPastEnd}
use Rattle.tl_patch_edit.specs.Several.{places_of}
use Rattle.tl_patch_edit.specs.declared.error.EditError.{EditError}
use Rattle.tl_patch_edit.specs.declared.error.EditError.TheVariants as edit
use Rattle.tl_patch_spec.specs.Patches.{Patch}
use Rattle.tl_patch_spec.specs.TagChanges.{TagChange}
use Rattle.tl_patch_spec.specs.Together.{at_each}
use Rattle.tl_patch_select.specs.Errors.{error_of_edit, error_of_patch}
use Rattle.tl_patch_select.specs.NodeEdits.{AreEditsInOrder, AreEditsReason, AreNumbersOf, IsOneNotWhole, placed_edits}
use Rattle.tl_patch_select.specs.Nodes.{AreInOrder, ChangeOf, all_placed}
use Rattle.tl_patch_select.specs.Patched.{changes_at}
use Rattle.tl_patch_select.specs.Reasons.{AreNodesReason, IsElementReason, IsTagReason}
use Rattle.tl_patch_select.specs.Selected.{AreSelected}
use Rattle.tl_patch_select.specs.Whole.{IsNotWhole, IsOneCrossed, IsWhole}
use Rattle.tl_patch_select.specs.declared.whole.Crossed.{Crossed}
use Rattle.tl_tree.specs.declared.tree.Tree.{Tree}
use Rattle.tl_tree_select.specs.Meaning.{AreFound}
use Rattle.tl_tree_select.specs.Page.{page_of}

-- what the call that changes tags says of each error
pub record SaysOfTags {T : Type 0} (page : List ℕ) (changes : List PlacedChange) (r : Result T PatchError) : Type 0 where
  pub no_start_tag : (p : ℕ) → r ≡ Err (page_error.NoStartTag p) → IsUnplaced p changes page
  pub not_written : (p : ℕ) → r ≡ Err (page_error.NotWritten p) → IsPlaced p changes page

pub tag_reason_of_patch : {T : Type 0} (e : Css) (change : TagChange) (tree : Tree) (page places : List ℕ) (r : Result T PatchError) (error : PatchError) → AreSelected e tree places → r ≡ Err error →
    SaysOfTags page (changes_at change places) r → IsTagReason e change tree page (error_of_patch error)
tag_reason_of_patch e change tree page places r (page_error.NoStartTag p) selected is says = record { places = places; selected = selected; refused = says.no_start_tag p is }
tag_reason_of_patch e change tree page places r (page_error.NotWritten p) selected is says = record { places = places; selected = selected; refused = says.not_written p is }
tag_reason_of_patch e change tree page places r page_error.OutOfMemory selected is says = tt

pub nodes_reason_of_patch : {T : Type 0} (asked : List ChangeOf) (tree : Tree) (page : List ℕ) (sorted : List PlacedChange) (r : Result T PatchError) (error : PatchError) → AreInOrder (all_placed tree asked) sorted → r ≡ Err error →
    SaysOfTags page sorted r → AreNodesReason asked tree page (error_of_patch error)
nodes_reason_of_patch asked tree page sorted r (page_error.NoStartTag p) order is says = record { sorted = sorted; in_order = order; refused = says.no_start_tag p is }
nodes_reason_of_patch asked tree page sorted r (page_error.NotWritten p) order is says = record { sorted = sorted; in_order = order; refused = says.not_written p is }
nodes_reason_of_patch asked tree page sorted r page_error.OutOfMemory order is says = tt

-- what the call that changes elements says of each error
pub record SaysOfElements {T : Type 0} (page : List ℕ) (patches : List (ℕ × Patch)) (r : Result T EditError) : Type 0 where
  pub no_start : (p : ℕ) → r ≡ Err (edit.NoStartTag p) → LacksStartTag page (places_of patches) p
  pub not_meant : (p : ℕ) → r ≡ Err (edit.NotMeant p) → CannotBeMeant page patches p
  pub past_end : (p : ℕ) → r ≡ Err (edit.EndOfPage p) → StandsPastEnd page patches p
  pub not_written : (p : ℕ) → r ≡ Err (edit.NotWritten p) → CannotBeWritten page patches p
  pub across : (p : ℕ) → r ≡ Err (edit.Across p) → StandAcross page patches p
  pub misread : (p by : ℕ) → r ≡ Err (edit.Misread p by) → MayBeMisread page patches p by
  pub read_otherwise : (p : ℕ) → r ≡ Err (edit.ReadOtherwise p) → CannotBeRead page patches p

pub element_reason_of_edit : {T : Type 0} (e : Css) (patch : Patch) (tree : Tree) (page places : List ℕ) (r : Result T EditError) (error : EditError) (selected : AreSelected e tree places) → r ≡ Err error →
    SaysOfElements page (at_each patch places) r → IsElementReason e patch tree page (error_of_edit error)
element_reason_of_edit e patch tree page places r (edit.NoStartTag p) selected is says = record { places = places; selected = selected; refused = says.no_start p is; reason = tt }
element_reason_of_edit e patch tree page places r (edit.NotMeant p) selected is says = record { places = places; selected = selected; refused = says.not_meant p is; reason = tt }
element_reason_of_edit e patch tree page places r (edit.EndOfPage p) selected is says = record { places = places; selected = selected; refused = says.past_end p is; reason = tt }
element_reason_of_edit e patch tree page places r (edit.NotWritten p) selected is says = record { places = places; selected = selected; refused = says.not_written p is; reason = tt }
element_reason_of_edit e patch tree page places r (edit.Across p) selected is says = record { places = places; selected = selected; refused = says.across p is; reason = tt }
element_reason_of_edit e patch tree page places r (edit.Misread p by) selected is says = record { places = places; selected = selected; refused = says.misread p by is; reason = tt }
element_reason_of_edit e patch tree page places r (edit.ReadOtherwise p) selected is says = record { places = places; selected = selected; refused = says.read_otherwise p is; reason = tt }
element_reason_of_edit e patch tree page places r edit.OutOfMemory selected is says = tt

pub edits_reason_of_edit : {T : Type 0} (edits : List (ℕ × Patch)) (tree : Tree) (page : List ℕ) (sorted : List (ℕ × Patch)) (r : Result T EditError) (error : EditError) → AreEditsInOrder (placed_edits tree edits) sorted → r ≡ Err error →
    SaysOfElements page sorted r → AreEditsReason edits tree page (error_of_edit error)
edits_reason_of_edit edits tree page sorted r (edit.NoStartTag p) order is says = record { sorted = sorted; in_order = order; refused = says.no_start p is; reason = tt }
edits_reason_of_edit edits tree page sorted r (edit.NotMeant p) order is says = record { sorted = sorted; in_order = order; refused = says.not_meant p is; reason = tt }
edits_reason_of_edit edits tree page sorted r (edit.EndOfPage p) order is says = record { sorted = sorted; in_order = order; refused = says.past_end p is; reason = tt }
edits_reason_of_edit edits tree page sorted r (edit.NotWritten p) order is says = record { sorted = sorted; in_order = order; refused = says.not_written p is; reason = tt }
edits_reason_of_edit edits tree page sorted r (edit.Across p) order is says = record { sorted = sorted; in_order = order; refused = says.across p is; reason = tt }
edits_reason_of_edit edits tree page sorted r (edit.Misread p by) order is says = record { sorted = sorted; in_order = order; refused = says.misread p by is; reason = tt }
edits_reason_of_edit edits tree page sorted r (edit.ReadOtherwise p) order is says = record { sorted = sorted; in_order = order; refused = says.read_otherwise p is; reason = tt }
edits_reason_of_edit edits tree page sorted r edit.OutOfMemory order is says = tt

-- the elements that are whole, and the one that isn't

pub whole_selected : (page own : List ℕ) (tree : Tree) (numbers same : List ℕ) (found : Option Crossed) → same ≡ numbers → found ≡ None → own ≡ page → IfNone found (All (IsWhole own tree) same) → All (IsWhole page tree) numbers
whole_selected page own tree numbers same found e n p h = subst (λ (q : List ℕ). All (IsWhole q tree) numbers) p (subst (All (IsWhole own tree)) e (MatchOption-at_none _ _ n h))

pub not_whole : (e : Css) (tree : Tree) (page own numbers same : List ℕ) (found : Option Crossed) (crossed : Crossed) → AreFound (page_of tree) e numbers → same ≡ numbers → found ≡ Some crossed →
    own ≡ page → IfSome found (λ (c : Crossed). IsOneCrossed own tree same c.place c.at) → IsNotWhole e tree page crossed.place crossed.at
not_whole e tree page own numbers same found crossed are i n p h = record {
  numbers = numbers;
  found = are;
  one = subst (λ (q : List ℕ). IsOneCrossed q tree numbers crossed.place crossed.at) p (subst (λ (xs : List ℕ). IsOneCrossed own tree xs crossed.place crossed.at) i (MatchOption-at_some _ _ crossed n h));
}

pub one_not_whole : (edits : List (ℕ × Patch)) (tree : Tree) (page own numbers same : List ℕ) (found : Option Crossed) (crossed : Crossed) → AreNumbersOf edits numbers → same ≡ numbers → found ≡ Some crossed →
    own ≡ page → IfSome found (λ (c : Crossed). IsOneCrossed own tree same c.place c.at) → IsOneNotWhole edits tree page crossed.place crossed.at
one_not_whole edits tree page own numbers same found crossed are i n p h = record {
  numbers = numbers;
  are_numbers = are;
  one = subst (λ (q : List ℕ). IsOneCrossed q tree numbers crossed.place crossed.at) p (subst (λ (xs : List ℕ). IsOneCrossed own tree xs crossed.place crossed.at) i (MatchOption-at_some _ _ crossed n h));
}
