-- Why a change isn't made of the elements that are left.
use Rattle.std.proofs.Common.{List, ℕ}
use Rattle.tl_answers.specs.Edits.{refusal_of_read}
use Rattle.tl_answers.specs.Pages.{IsUnread}
use Rattle.tl_answers.specs.Partly.{IsRestUndone, IsRestUndoneOfTree, IsTagRestRefusal, IsTagRestRefused, IsUndonePartly}
use Rattle.tl_answers.specs.Uncommented.{AreKept, IsUncommentRefusal, comments_meant, refusal_of_comment, refusal_of_reading}
use Rattle.tl_answers.specs.declared.edit.Edit.{Edit}
use Rattle.tl_answers.specs.declared.edit.Edit.TheVariants as edit
use Rattle.tl_answers.specs.declared.edit.Refusal.{Refusal}
use Rattle.tl_answers.specs.declared.edit.Refusal.TheVariants as refusal
use Rattle.regex.specs.declared.bytes.regex.Regex.{Regex}
use Rattle.std.specs.Prelude.{Option}
use Rattle.tl_css.specs.Selector.{Css}
use Rattle.tl_patch_edit.specs.declared.comments.CommentError.{CommentError}
use Rattle.tl_patch_edit.specs.declared.comments.CommentError.TheVariants as comment
use Rattle.tl_patch_select.specs.Nodes.{ChangeOf}
use Rattle.tl_patch_select.specs.Uncommented.{IsCommentReason}
use Rattle.tl_tree.specs.Pages.{IsOfPage}
use Rattle.tl_tree.specs.TreeView.{rows_in}
use Rattle.tl_tree.specs.declared.error.ReadError.{ReadError}
use Rattle.tl_tree.specs.declared.error.ReadError.TheVariants as read
use Rattle.tl_tree.specs.declared.tree.Tree.{Tree}
use Rattle.tl_tree_select.specs.Meaning.{AreFound}
use Rattle.tl_tree_select.specs.Page.{page_of}

pub tag_rest : (changes : List ℕ → List ChangeOf) (tree : Tree) (page numbers : List ℕ) (why : Refusal) → IsTagRestRefused changes tree page numbers why → IsTagRestRefusal changes tree page numbers why
tag_rest changes tree page numbers (refusal.Tag error) h = h
tag_rest changes tree page numbers (refusal.Element error) h = h
tag_rest changes tree page numbers (refusal.Unread error) h = h
tag_rest changes tree page numbers refusal.OutOfMemory h = tt

not_unread : (own : Edit) (tree : Tree) (page numbers : List ℕ) (error : ReadError) → IsRestUndone own tree page numbers (refusal.Unread error) → ⊥
not_unread (edit.Set key value) tree page numbers error h = h.reason
not_unread (edit.Rewrite key rewrite) tree page numbers error h = h.reason
not_unread (edit.Unset key) tree page numbers error h = h.reason
not_unread (edit.Rename name) tree page numbers error h = h
not_unread (edit.Element patch) tree page numbers error h = h

pub rest_of_page : (own : Edit) (e : Css) (page : List ℕ) (tree : Tree) (numbers : List ℕ) (why : Refusal) → IsOfPage page tree → AreFound (page_of tree) e numbers → IsRestUndone own tree page numbers why → IsUndonePartly own e page why
rest_of_page own e page tree numbers (refusal.Tag error) of_page found h = record { tree = tree; of_page = of_page; numbers = numbers; found = found; undone = h }
rest_of_page own e page tree numbers (refusal.Element error) of_page found h = record { tree = tree; of_page = of_page; numbers = numbers; found = found; undone = h }
rest_of_page own e page tree numbers (refusal.Unread error) of_page found h = absurd (not_unread own tree page numbers error h)
rest_of_page own e page tree numbers refusal.OutOfMemory of_page found h = tt

pub unread_partly : (own : Edit) (e : Css) (page : List ℕ) (error : ReadError) → IsUnread page error → IsUndonePartly own e page (refusal_of_read error)
unread_partly own e page read.OutOfMemory unread = tt
unread_partly own e page read.TooLarge unread = tt
unread_partly own e page (read.OutOfProportion at) unread = unread

-- why a page keeps its comments

pub unread_comments : (regex : Option Regex) (page : List ℕ) (error : ReadError) → IsUnread page error → IsUncommentRefusal regex page (refusal_of_reading error)
unread_comments regex page read.OutOfMemory unread = tt
unread_comments regex page read.TooLarge unread = tt
unread_comments regex page (read.OutOfProportion at) unread = unread

pub kept_of_page : (regex : Option Regex) (page : List ℕ) (tree : Tree) (error : CommentError) → IsOfPage page tree → IsCommentReason (comments_meant regex (rows_in tree)) tree page error →
    IsUncommentRefusal regex page (refusal_of_comment error)
kept_of_page regex page tree (comment.NoComment place) of_page h = record { tree = tree; of_page = of_page; reason = h }
kept_of_page regex page tree comment.ReadOtherwise of_page h = record { tree = tree; of_page = of_page; reason = h }
kept_of_page regex page tree comment.OutOfMemory of_page h = tt
