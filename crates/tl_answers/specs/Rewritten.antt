-- A page with the values of a key made of old ones where a selector holds.
use Rattle.std.specs.Prelude.{List, ℕ, map}
use Rattle.tl_css.specs.Selector.{Css}
use Rattle.tl_patch.specs.declared.error.PatchError.{PatchError}
use Rattle.tl_patch_select.specs.Nodes.{AreNodesPatched, ChangeOf}
use Rattle.tl_patch_select.specs.Reasons.{AreNodesReason}
use Rattle.tl_patch_select.specs.declared.error.SelectionPatchError.{SelectionPatchError}
use Rattle.tl_patch_spec.specs.TagChanges.{Set}
use Rattle.tl_tree.specs.TreeView.{rows_in}
use Rattle.tl_tree.specs.declared.tree.Tree.{Tree}
use Rattle.tl_tree_select.specs.Meaning.{AreFound}
use Rattle.tl_tree_select.specs.Page.{page_of}
use Rattle.tl_values.specs.NewValues.{values_got}
use Rattle.tl_values.specs.declared.rewrite.Rewrite.{Rewrite}

-- each of these nodes gets its value at the key
abbrev pub sets_of : List ℕ → List (ℕ × List ℕ) → List ChangeOf
sets_of key values = map (λ v. record { number = v.0; change = Set key v.1 }) values

-- text is the page in which the tags of the elements where the selector holds have the values that
-- are made of their old ones, and nothing else is changed; the places are those of the tags that
-- get another value
pub record IsRewrittenWhere (e : Css) (rewrite : Rewrite) (key : List ℕ) (tree : Tree)
    (page text places : List ℕ) : Type 0 where
  pub numbers : List ℕ
  pub found : AreFound (page_of tree) e numbers
  pub patched :
      AreNodesPatched (sets_of key (values_got rewrite key (rows_in tree) numbers)) tree page text
      places

-- why that isn't done
pub record IsRewriteReason (e : Css) (rewrite : Rewrite) (key : List ℕ) (tree : Tree)
    (page : List ℕ) (error : SelectionPatchError) : Type 0 where
  pub numbers : List ℕ
  pub found : AreFound (page_of tree) e numbers
  pub reason :
      AreNodesReason (sets_of key (values_got rewrite key (rows_in tree) numbers)) tree page error
