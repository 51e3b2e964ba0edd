-- A page without comments of its tree.
use Rattle.std.specs.Prelude.{List, ℕ, ⊤}
use Rattle.tl_patch_edit.specs.Comments.{AreCommentsGone, AreCommentsRefused}
use Rattle.tl_patch_edit.specs.declared.comments.CommentError.{CommentError}
use Rattle.tl_patch_edit.specs.declared.comments.CommentError.TheVariants as comment
use Rattle.tl_patch_select.specs.Selected.{ArePlacesOf}
use Rattle.tl_tree.specs.declared.tree.Tree.{Tree}

-- text is the page without the comments that are these nodes; the places are where they begin
pub record AreUncommented (numbers : List ℕ) (tree : Tree) (page text places : List ℕ) : Type 0
  where
    pub are_places : ArePlacesOf tree numbers places
    pub gone : AreCommentsGone places page text

-- the comments that are these nodes aren't taken out, and for this reason
pub record AreNodesKept (numbers : List ℕ) (tree : Tree) (page : List ℕ) (error : CommentError) :
    Type 0 where
  pub places : List ℕ
  pub are_places : ArePlacesOf tree numbers places
  pub refused : AreCommentsRefused places page error

-- nothing is said of when memory runs out
abbrev pub IsCommentReason : List ℕ → Tree → List ℕ → CommentError → Type 0
IsCommentReason numbers tree page comment.OutOfMemory = ⊤
IsCommentReason numbers tree page error = AreNodesKept numbers tree page error
