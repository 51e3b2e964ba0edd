-- A page with tags or elements changed, by its tree.
use Rattle.std.proofs.Common.{List, Ok, Err, false, ℕ, ◌≡◌}
use Rattle.std.specs.Prelude.{IfErr, IfOk, Result}
use Rattle.tl_answers.specs.Edits.{IsDone, IsDoneOfPage, IsUndone, IsUndoneOfPage, refusal_of_read}
use Rattle.tl_tree.specs.Pages.{IsOfPage}
use Rattle.tl_answers.specs.Pages.{IsUnread}
use Rattle.tl_answers.specs.declared.edit.Edit.{Edit}
use Rattle.tl_answers.specs.declared.edit.Edit.TheVariants as edit
use Rattle.tl_answers.specs.declared.edit.Refusal.{Refusal}
use Rattle.tl_answers.specs.declared.edit.Refusal.TheVariants as refusal
use Rattle.tl_css.specs.Selector.{Css}
use Rattle.tl_dom_spec.specs.HtmlTree.{is_in_proportion_by, standard}
use Rattle.tl_patch_select.specs.declared.patched.Patched.{Patched}
use Rattle.tl_tree.specs.Sources.{IsOutOfProportionAt, page_begin}
use Rattle.tl_tree.specs.declared.error.ReadError.{ReadError}
use Rattle.tl_tree.specs.declared.error.ReadError.TheVariants as read
use Rattle.tl_tree.specs.declared.tree.Tree.{Tree}

not_unread : (own : Edit) (e : Css) (page : List ℕ) (tree : Tree) (error : ReadError) → IsUndone own e tree page (refusal.Unread error) → ⊥
not_unread (edit.Set key value) e page tree error undone = undone
not_unread (edit.Rewrite key rewrite) e page tree error undone = undone
not_unread (edit.Unset key) e page tree error undone = undone
not_unread (edit.Rename name) e page tree error undone = undone
not_unread (edit.Element patch) e page tree error undone = undone

pub refused_of_page : (own : Edit) (e : Css) (page : List ℕ) (tree : Tree) (why : Refusal) → IsOfPage page tree → IsUndone own e tree page why → IsUndoneOfPage own e page why
refused_of_page own e page tree (refusal.Tag error) of_page undone = record { tree = tree; of_page = of_page; undone = undone }
refused_of_page own e page tree (refusal.Element error) of_page undone = record { tree = tree; of_page = of_page; undone = undone }
refused_of_page own e page tree (refusal.Unread error) of_page undone = absurd (not_unread own e page tree error undone)
refused_of_page own e page tree refusal.OutOfMemory of_page undone = tt

pub unread_page : (own : Edit) (e : Css) (page : List ℕ) (error : ReadError) → IsUnread page error → IsUndoneOfPage own e page (refusal_of_read error)
unread_page own e page read.OutOfMemory unread = tt
unread_page own e page read.TooLarge unread = tt
unread_page own e page (read.OutOfProportion at) unread = unread

pub read_refused : (page : List ℕ) (r : Result Tree ReadError) (error : ReadError) → r ≡ Err error → ((at : ℕ) → r ≡ Err (read.OutOfProportion at) → is_in_proportion_by standard page ≡ false) →
    ((at : ℕ) → r ≡ Err (read.OutOfProportion at) → IsOutOfProportionAt page (page_begin standard page) at) → IsUnread page error
read_refused page r read.OutOfMemory is out place = tt
read_refused page r read.TooLarge is out place = tt
read_refused page r (read.OutOfProportion at) is out place = (out at is, place at is)
