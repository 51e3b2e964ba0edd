-- A page without its comments, or some of them.
use Rattle.regex.specs.Bytes.{regex_pattern}
use Rattle.regex.specs.Patterns.{find}
use Rattle.regex.specs.declared.bytes.regex.Regex.{Regex}
use Rattle.std.specs.Option.{option_and_then, unwrap_or}
use Rattle.std.specs.Prelude.{Bool, List, None, Option, Some, [], filter, is_some, ℕ, ⊤}
use Rattle.tl_answers.specs.Pages.{IsUnread}
use Rattle.tl_answers.specs.declared.uncommented.CommentRefusal.{CommentRefusal}
use Rattle.tl_answers.specs.declared.uncommented.CommentRefusal.TheVariants as refusal
use Rattle.tl_patch_edit.specs.declared.comments.CommentError.{CommentError}
use Rattle.tl_patch_edit.specs.declared.comments.CommentError.TheVariants as comment
use Rattle.tl_patch_select.specs.Uncommented.{AreUncommented, IsCommentReason}
use Rattle.tl_tree.specs.Asked.{node_at, text_of}
use Rattle.tl_tree.specs.Pages.{IsOfPage}
use Rattle.tl_tree.specs.Rows.{Row}
use Rattle.tl_tree.specs.TreeView.{rows_in}
use Rattle.tl_tree.specs.declared.error.ReadError.{ReadError}
use Rattle.tl_tree.specs.declared.error.ReadError.TheVariants.{OutOfMemory}
use Rattle.tl_tree.specs.declared.tree.Tree.{Tree}
use Rattle.tl_tree_extract.specs.Marks.{comments_of}

-- what a comment says
abbrev pub said_at : List Row → ℕ → List ℕ
said_at rows n = unwrap_or (option_and_then text_of (node_at rows n)) []

-- whether a regular expression matches somewhere in that
abbrev pub is_matched : Regex → List Row → ℕ → Bool
is_matched regex rows n = is_some (find (regex_pattern regex) (said_at rows n) 0)

-- the comments that are meant: all, or those that a regular expression matches
abbrev pub comments_meant : Option Regex → List Row → List ℕ
comments_meant None rows = comments_of rows
comments_meant (Some regex) rows = filter (is_matched regex rows) (comments_of rows)

-- text is the page without the comments of its tree that are meant
pub record IsUncommented (regex : Option Regex) (page text places : List ℕ) : Type 0 where
  pub tree : Tree
  pub of_page : IsOfPage page tree
  pub gone : AreUncommented (comments_meant regex (rows_in tree)) tree page text places

-- the comments that are meant aren't taken out, and for this reason
pub record AreKept (regex : Option Regex) (page : List ℕ) (error : CommentError) : Type 0 where
  pub tree : Tree
  pub of_page : IsOfPage page tree
  pub reason : IsCommentReason (comments_meant regex (rows_in tree)) tree page error

-- why: the page isn't read, or they can't be taken out; want of memory is said apart
abbrev pub IsUncommentRefusal : Option Regex → List ℕ → CommentRefusal → Type 0
IsUncommentRefusal regex page (refusal.Comment comment.OutOfMemory) = ⊥
IsUncommentRefusal regex page (refusal.Comment error) = AreKept regex page error
IsUncommentRefusal regex page (refusal.Unread OutOfMemory) = ⊥
IsUncommentRefusal regex page (refusal.Unread error) = IsUnread page error
IsUncommentRefusal regex page refusal.OutOfMemory = ⊤

abbrev pub refusal_of_comment : CommentError → CommentRefusal
refusal_of_comment comment.OutOfMemory = refusal.OutOfMemory
refusal_of_comment error = refusal.Comment error

abbrev pub refusal_of_reading : ReadError → CommentRefusal
refusal_of_reading OutOfMemory = refusal.OutOfMemory
refusal_of_reading error = refusal.Unread error
