-- A page of which nothing is changed.
use Rattle.std.proofs.Common.{List, None, [], arith, length, refl, subst, sym, ℕ, ◌∷◌, ◌≡◌}
use Rattle.std.specs.List.{All, Contains}
use Rattle.std.specs.List.Sorted.{IsStrictlyIncreasing}
use Rattle.tl_css.specs.Selector.{Css}
use Rattle.tl_patch_edit.specs.Kept.{KeepRawTexts}
use Rattle.tl_patch_edit.specs.Several.{AreEdited}
use Rattle.tl_patch_spec.specs.Patches.{Patch}
use Rattle.tl_patch_spec.specs.Together.{at_each}
use Rattle.tl_patch_select.specs.Edited.{IsEditedWhere}
use Rattle.tl_patch_select.specs.NodeEdits.{AreEditsInOrder, AreNodesEdited, AreNumbersOf}
use Rattle.tl_patch_select.specs.Selected.{ArePlacesOf}
use Rattle.tl_patch_select.specs.Whole.{IsWhole}
use Rattle.tl_tree.specs.declared.tree.Tree.{Tree}
use Rattle.tl_tree_select.specs.Meaning.{AreFound}
use Rattle.tl_tree_select.specs.Page.{page_of}

pub no_items : {A : Type 0} (xs : List A) → length xs ≡ 0 → xs ≡ []
no_items [] e = refl
no_items (x ∷ xs) e = absurd (omega (arith, e))

no_places : (tree : Tree) → ArePlacesOf tree [] []
no_places tree = record {
  rising = search arith;
  kept = λ place h. h;
  none_added = λ place h. h;
}

none_whole : (page : List ℕ) (tree : Tree) → All (IsWhole page tree) []
none_whole page tree = λ k d l. absurd (omega arith)

edited_nowhere : (e : Css) (patch : Patch) (tree : Tree) (page text : List ℕ) → AreFound (page_of tree) e [] → AreEdited [] page text → KeepRawTexts [] page → IsEditedWhere e patch tree page text []
edited_nowhere e patch tree page text found edited kept = record {
  selected = record { numbers = []; found = found; are_places = no_places tree };
  tagged = refl;
  whole = none_whole page tree;
  edited = edited;
  kept = kept;
}

pub unchanged_where : (e : Css) (patch : Patch) (tree : Tree) (page text numbers places : List ℕ) → AreFound (page_of tree) e numbers → numbers ≡ [] → places ≡ [] → AreEdited [] page text → KeepRawTexts [] page →
    IsEditedWhere e patch tree page text places
unchanged_where e patch tree page text numbers places found none empty edited kept =
    subst (λ (xs : List ℕ). IsEditedWhere e patch tree page text xs) (sym empty)
    (edited_nowhere e patch tree page text (subst (λ (xs : List ℕ). AreFound (page_of tree) e xs) none found) edited kept)

no_numbers : AreNumbersOf [] []
no_numbers = record {
  rising = search arith;
  kept = λ n h. h;
  none_added = λ n h. h;
}

no_edits : AreEditsInOrder [] []
no_edits = record { rising = search arith; stable = search arith }

no_nodes_edited : (tree : Tree) (page text : List ℕ) → AreEdited [] page text → KeepRawTexts [] page → AreNodesEdited [] tree page text []
no_nodes_edited tree page text edited kept = record {
  numbers = [];
  are_numbers = no_numbers;
  tagged = refl;
  whole = none_whole page tree;
  are_places = no_places tree;
  sorted = [];
  in_order = no_edits;
  edited = edited;
  kept = kept;
}

pub nodes_unchanged : (edits : List (ℕ × Patch)) (tree : Tree) (page text places : List ℕ) → edits ≡ [] → places ≡ [] → AreEdited [] page text → KeepRawTexts [] page → AreNodesEdited edits tree page text places
nodes_unchanged edits tree page text places none empty edited kept =
    subst (λ (xs : List (ℕ × Patch)). AreNodesEdited xs tree page text places) (sym none)
    (subst (λ (xs : List ℕ). AreNodesEdited [] tree page text xs) (sym empty) (no_nodes_edited tree page text edited kept))
