-- A page with something done with those of some elements with which it can be done.
use Rattle.std.specs.Prelude.{List, [], length, map, reverse, string_bytes, ℕ, ⊤, ◌≡◌}
use Rattle.tl_answers.specs.Meant.{TellsIf, is_asked}
use Rattle.tl_answers.specs.Pages.{IsUnread}
use Rattle.tl_answers.specs.Rewritten.{sets_of}
use Rattle.tl_answers.specs.declared.edit.Edit.{Edit}
use Rattle.tl_answers.specs.declared.edit.Edit.TheVariants as edit
use Rattle.tl_answers.specs.declared.edit.Refusal.{Refusal}
use Rattle.tl_answers.specs.declared.edit.Refusal.TheVariants as refusal
use Rattle.tl_answers.specs.declared.meant.Meant.{Meant}
use Rattle.tl_css.specs.Selector.{Css}
use Rattle.tl_patch_edit.specs.View.{patch_view}
use Rattle.tl_patch_select.specs.NodeEdits.{AreNodesEdited}
use Rattle.tl_patch_select.specs.Nodes.{AreNodesPatched, ChangeOf}
use Rattle.tl_patch_select.specs.Partly.{AreLeftOut, AreTagged, IsRestRefused, left_over, patched_each, put_in_places}
use Rattle.tl_patch_select.specs.Reasons.{AreNodesReason}
use Rattle.tl_patch_select.specs.declared.edit_error.SelectionEditError.TheVariants as element
use Rattle.tl_patch_select.specs.declared.error.SelectionPatchError.TheVariants as tag
use Rattle.tl_patch_select.specs.declared.partly.LeftOut.{LeftOut}
use Rattle.tl_patch_spec.specs.Patches.{Patch, RenameElement}
use Rattle.tl_patch_spec.specs.TagChanges.{Set, TagChange, Unset}
use Rattle.tl_tree.specs.Pages.{IsOfPage}
use Rattle.tl_tree.specs.TreeView.{rows_in}
use Rattle.tl_tree.specs.declared.error.ReadError.TheVariants.{OutOfMemory}
use Rattle.tl_tree.specs.declared.tree.Tree.{Tree}
use Rattle.tl_tree_select.specs.Meaning.{AreFound}
use Rattle.tl_tree_select.specs.Page.{page_of}
use Rattle.tl_values.specs.NewValues.{values_got}
use Rattle.tl_values.specs.declared.rewrite.Rewrite.{Rewrite}

abbrev pub changed_at : TagChange → ℕ → ChangeOf
changed_at change number = record { number = number; change = change }

-- this change of each of these tags
abbrev pub changed_each : TagChange → List ℕ → List ChangeOf
changed_each change numbers = map (changed_at change) numbers

-- text is the page with this done with each of these elements
abbrev pub IsDoneOf : Edit → Tree → List ℕ → List ℕ → List ℕ → List ℕ → Type 0
IsDoneOf (edit.Set key value) tree numbers page text places =
    AreNodesPatched (changed_each (Set (string_bytes key) value.now) numbers) tree page text places
IsDoneOf (edit.Rewrite key rewrite) tree numbers page text places =
    AreNodesPatched
    (sets_of (string_bytes key) (values_got rewrite (string_bytes key) (rows_in tree) numbers))
    tree page text places
IsDoneOf (edit.Unset key) tree numbers page text places =
    AreNodesPatched (changed_each (Unset (string_bytes key)) numbers) tree page text places
IsDoneOf (edit.Rename name) tree numbers page text places =
    AreNodesEdited (patched_each (RenameElement (string_bytes name)) numbers) tree page text places
IsDoneOf (edit.Element patch) tree numbers page text places =
    AreNodesEdited (patched_each (patch_view patch) numbers) tree page text places

-- it is done with the elements that are left, and it is told why it can't be done with the others
pub record AreWhole (patch : Patch) (tree : Tree) (page numbers left : List ℕ) (out : LeftOut)
    : Type 0 where
  pub is_left : left ≡ left_over tree numbers out
  pub left_out : AreLeftOut patch tree page numbers out

-- the same of tags, and of those that are put in
pub record AreTaggedAll (tree : Tree) (page numbers left : List ℕ) (out : LeftOut) : Type 0 where
  pub put_in : out.untagged.items ≡ put_in_places tree (length page) (reverse numbers)
  pub tagged : AreTagged tree page numbers left out

-- that no key can go of what no tag stands for isn't told
pub record AreTaggedBut (tree : Tree) (page numbers left : List ℕ) (out : LeftOut) : Type 0 where
  pub put_in : out.untagged.items ≡ []
  pub tagged : AreTagged tree page numbers left out

-- with which of these elements this is done, and why not with the others
abbrev pub AreLeft : Edit → Tree → List ℕ → List ℕ → List ℕ → LeftOut → Type 0
AreLeft (edit.Set key value) tree page numbers left out = AreTaggedAll tree page numbers left out
AreLeft (edit.Rewrite key rewrite) tree page numbers left out =
    AreTaggedAll tree page numbers left out
AreLeft (edit.Unset key) tree page numbers left out = AreTaggedBut tree page numbers left out
AreLeft (edit.Rename name) tree page numbers left out =
    AreWhole (RenameElement (string_bytes name)) tree page numbers left out
AreLeft (edit.Element patch) tree page numbers left out =
    AreWhole (patch_view patch) tree page numbers left out

-- text is the page with this done with those elements where the selector holds with which it can be
-- done; why it can't be with the others; and whether its tree is the one that is meant
pub record IsDonePartly (own : Edit) (e : Css) (page text places : List ℕ) (out : LeftOut)
    (meant : Meant) : Type 0 where
  pub tree : Tree
  pub of_page : IsOfPage page tree
  pub numbers : List ℕ
  pub found : AreFound (page_of tree) e numbers
  pub left : List ℕ
  pub are_left : AreLeft own tree page numbers left out
  pub done : IsDoneOf own tree left page text places
  pub told : TellsIf (is_asked own (rows_in tree) left) own (rows_in tree) tree.is_quirks left text
      meant

-- why it isn't done with the elements that are left

-- changes of tags are refused; want of memory is said apart
abbrev pub IsChangesRefusal : List ChangeOf → Tree → List ℕ → Refusal → Type 0
IsChangesRefusal changes tree page (refusal.Tag tag.OutOfMemory) = ⊥
IsChangesRefusal changes tree page (refusal.Tag error) = AreNodesReason changes tree page error
IsChangesRefusal changes tree page (refusal.Element error) = ⊥
IsChangesRefusal changes tree page refusal.OutOfMemory = ⊤
IsChangesRefusal changes tree page (refusal.Unread error) = ⊥

-- the changes of the tags that are left are refused
pub record IsTagRestRefused (changes : List ℕ → List ChangeOf) (tree : Tree)
    (page numbers : List ℕ) (why : Refusal) : Type 0 where
  pub left : List ℕ
  pub out : LeftOut
  pub tagged : AreTagged tree page numbers left out
  pub reason : IsChangesRefusal (changes left) tree page why

abbrev pub IsTagRestRefusal : (List ℕ → List ChangeOf) → Tree → List ℕ → List ℕ → Refusal → Type 0
IsTagRestRefusal changes tree page numbers refusal.OutOfMemory = ⊤
IsTagRestRefusal changes tree page numbers why = IsTagRestRefused changes tree page numbers why

abbrev pub IsElementRestRefusal : Patch → Tree → List ℕ → List ℕ → Refusal → Type 0
IsElementRestRefusal patch tree page numbers (refusal.Tag error) = ⊥
IsElementRestRefusal patch tree page numbers (refusal.Element element.OutOfMemory) = ⊥
IsElementRestRefusal patch tree page numbers (refusal.Element error) =
    IsRestRefused patch tree page numbers error
IsElementRestRefusal patch tree page numbers refusal.OutOfMemory = ⊤
IsElementRestRefusal patch tree page numbers (refusal.Unread error) = ⊥

-- each of these tags gets its value, made of its old one
abbrev pub rewritten_each : Rewrite → List ℕ → Tree → List ℕ → List ChangeOf
rewritten_each rewrite key tree numbers =
    sets_of key (values_got rewrite key (rows_in tree) numbers)

abbrev pub IsRestUndone : Edit → Tree → List ℕ → List ℕ → Refusal → Type 0
IsRestUndone (edit.Set key value) tree page numbers why =
    IsTagRestRefusal (changed_each (Set (string_bytes key) value.now)) tree page numbers why
IsRestUndone (edit.Rewrite key rewrite) tree page numbers why =
    IsTagRestRefusal (rewritten_each rewrite (string_bytes key) tree) tree page numbers why
IsRestUndone (edit.Unset key) tree page numbers why =
    IsTagRestRefusal (changed_each (Unset (string_bytes key))) tree page numbers why
IsRestUndone (edit.Rename name) tree page numbers why =
    IsElementRestRefusal (RenameElement (string_bytes name)) tree page numbers why
IsRestUndone (edit.Element patch) tree page numbers why =
    IsElementRestRefusal (patch_view patch) tree page numbers why

pub record IsRestUndoneOfTree (own : Edit) (e : Css) (page : List ℕ) (why : Refusal) : Type 0 where
  pub tree : Tree
  pub of_page : IsOfPage page tree
  pub numbers : List ℕ
  pub found : AreFound (page_of tree) e numbers
  pub undone : IsRestUndone own tree page numbers why

-- why nothing is done where the selector holds: the page isn't read, or what is done with the
-- elements that are left is refused; want of memory is said apart
abbrev pub IsUndonePartly : Edit → Css → List ℕ → Refusal → Type 0
IsUndonePartly own e page (refusal.Unread OutOfMemory) = ⊥
IsUndonePartly own e page (refusal.Unread error) = IsUnread page error
IsUndonePartly own e page refusal.OutOfMemory = ⊤
IsUndonePartly own e page why = IsRestUndoneOfTree own e page why
