-- What a change of tags or elements gives, and why it is refused.
use Rattle.std.specs.Prelude.{ℕ, List, ⊤, string_bytes}
use Rattle.tl_css.specs.Selector.{Css}
use Rattle.tl_patch_edit.specs.View.{patch_view}
use Rattle.tl_patch_spec.specs.Patches.{Patch, RenameElement}
use Rattle.tl_patch_spec.specs.TagChanges.{Set, TagChange, Unset}
use Rattle.tl_patch_select.specs.Edited.{IsEditedWhere}
use Rattle.tl_patch_select.specs.Patched.{IsPatchedWhere}
use Rattle.tl_patch_select.specs.Reasons.{IsElementReason, IsTagReason}
use Rattle.tl_patch_select.specs.declared.edit_error.SelectionEditError.TheVariants as element
use Rattle.tl_patch_select.specs.declared.error.SelectionPatchError.TheVariants as tag
use Rattle.tl_answers.specs.Pages.{IsUnread}
use Rattle.tl_answers.specs.Rewritten.{IsRewriteReason, IsRewrittenWhere}
use Rattle.tl_answers.specs.declared.edit.Edit.{Edit}
use Rattle.tl_answers.specs.declared.edit.Edit.TheVariants as edit
use Rattle.tl_answers.specs.declared.edit.Refusal.{Refusal}
use Rattle.tl_answers.specs.declared.edit.Refusal.TheVariants as refusal
use Rattle.tl_tree.specs.Pages.{IsOfPage}
use Rattle.tl_tree.specs.declared.error.ReadError.{ReadError}
use Rattle.tl_tree.specs.declared.error.ReadError.TheVariants.{OutOfMemory}
use Rattle.tl_tree.specs.declared.tree.Tree.{Tree}
use Rattle.tl_values.specs.declared.rewrite.Rewrite.{Rewrite}

-- text is the page with this done where the selector holds; the places are where it was done
abbrev pub IsDone : Edit → Css → Tree → List ℕ → List ℕ → List ℕ → Type 0
IsDone (edit.Set key value) e tree page text places =
    IsPatchedWhere e (Set (string_bytes key) value.now) tree page text places
IsDone (edit.Rewrite key rewrite) e tree page text places =
    IsRewrittenWhere e rewrite (string_bytes key) tree page text places
IsDone (edit.Unset key) e tree page text places =
    IsPatchedWhere e (Unset (string_bytes key)) tree page text places
IsDone (edit.Rename name) e tree page text places =
    IsEditedWhere e (RenameElement (string_bytes name)) tree page text places
IsDone (edit.Element patch) e tree page text places =
    IsEditedWhere e (patch_view patch) tree page text places

-- why this change of tags, or this patch of elements, is refused; want of memory is said apart
abbrev pub IsTagRefusal : Css → TagChange → Tree → List ℕ → Refusal → Type 0
IsTagRefusal e change tree page (refusal.Tag tag.OutOfMemory) = ⊥
IsTagRefusal e change tree page (refusal.Tag error) = IsTagReason e change tree page error
IsTagRefusal e change tree page (refusal.Element error) = ⊥
IsTagRefusal e change tree page refusal.OutOfMemory = ⊤
IsTagRefusal e change tree page (refusal.Unread error) = ⊥

abbrev pub IsRewriteRefusal : Css → Rewrite → List ℕ → Tree → List ℕ → Refusal → Type 0
IsRewriteRefusal e rewrite key tree page (refusal.Tag tag.OutOfMemory) = ⊥
IsRewriteRefusal e rewrite key tree page (refusal.Tag error) =
    IsRewriteReason e rewrite key tree page error
IsRewriteRefusal e rewrite key tree page (refusal.Element error) = ⊥
IsRewriteRefusal e rewrite key tree page refusal.OutOfMemory = ⊤
IsRewriteRefusal e rewrite key tree page (refusal.Unread error) = ⊥

abbrev pub IsElementRefusal : Css → Patch → Tree → List ℕ → Refusal → Type 0
IsElementRefusal e patch tree page (refusal.Tag error) = ⊥
IsElementRefusal e patch tree page (refusal.Element element.OutOfMemory) = ⊥
IsElementRefusal e patch tree page (refusal.Element error) = IsElementReason e patch tree page error
IsElementRefusal e patch tree page refusal.OutOfMemory = ⊤
IsElementRefusal e patch tree page (refusal.Unread error) = ⊥

-- why this isn't done where the selector holds
abbrev pub IsUndone : Edit → Css → Tree → List ℕ → Refusal → Type 0
IsUndone (edit.Set key value) e tree page why =
    IsTagRefusal e (Set (string_bytes key) value.now) tree page why
IsUndone (edit.Rewrite key rewrite) e tree page why =
    IsRewriteRefusal e rewrite (string_bytes key) tree page why
IsUndone (edit.Unset key) e tree page why = IsTagRefusal e (Unset (string_bytes key)) tree page why
IsUndone (edit.Rename name) e tree page why =
    IsElementRefusal e (RenameElement (string_bytes name)) tree page why
IsUndone (edit.Element patch) e tree page why = IsElementRefusal e (patch_view patch) tree page why

-- Of a page

-- text is the page with this done where the selector holds in its tree
pub record IsDoneOfPage (own : Edit) (e : Css) (page text places : List ℕ) : Type 0 where
  pub tree : Tree
  pub of_page : IsOfPage page tree
  pub done : IsDone own e tree page text places

pub record IsUndoneOfTree (own : Edit) (e : Css) (page : List ℕ) (why : Refusal) : Type 0 where
  pub tree : Tree
  pub of_page : IsOfPage page tree
  pub undone : IsUndone own e tree page why

-- why this isn't done: the page isn't read, or it is refused by its tree; want of memory is said
-- apart
abbrev pub IsUndoneOfPage : Edit → Css → List ℕ → Refusal → Type 0
IsUndoneOfPage own e page (refusal.Unread OutOfMemory) = ⊥
IsUndoneOfPage own e page (refusal.Unread error) = IsUnread page error
IsUndoneOfPage own e page refusal.OutOfMemory = ⊤
IsUndoneOfPage own e page why = IsUndoneOfTree own e page why

abbrev pub refusal_of_read : ReadError → Refusal
refusal_of_read OutOfMemory = refusal.OutOfMemory
refusal_of_read error = refusal.Unread error
