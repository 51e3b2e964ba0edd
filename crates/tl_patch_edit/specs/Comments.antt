-- A page without some of its comments.
use Rattle.std.specs.List.{All, slice_get}
use Rattle.std.specs.Prelude.{List, Some, [], map, suc, ℕ, ⊤, ◌++◌, ◌<◌, ◌∷◌, ◌≡◌, ◌≤◌}
use Rattle.tl_html_spec.specs.HtmlTokenizer.{html_tokens, without_mark}
use Rattle.tl_html_spec.specs.Pieces.{Piece, bytes_of, tokens_in}
use Rattle.tl_html_tokens.specs.Kinds.{IsKind}
use Rattle.tl_html_tokens.specs.Tokens.{mark_len}
use Rattle.tl_html_tokens.specs.declared.stage.TokenKind.TheVariants as kind
use Rattle.tl_patch_edit.specs.Errors.{pieces_in, placed_pieces}
use Rattle.tl_patch_edit.specs.Found.{IsNeverSaid}
use Rattle.tl_patch_edit.specs.Sayings.{AreWhole, sayings}
use Rattle.tl_patch_edit.specs.Seams.{AreSeparated}
use Rattle.tl_patch_edit.specs.declared.comments.CommentError.{CommentError}
use Rattle.tl_patch_edit.specs.declared.comments.CommentError.TheVariants as error
use Rattle.tl_patch_spec.specs.Patches.{Put}
use Rattle.tl_patch_spec.specs.Splices.{Splice, with_splices}

-- the piece of this number is a comment, and begins at a place
pub record BeginsComment (ps : List (ℕ × Piece)) (place number : ℕ) : Type 0 where
  pub piece : Piece
  pub begins : slice_get ps number ≡ Some (place, piece)
  pub comment : IsKind kind.Comment piece.tokens

-- the pieces of these numbers are the comments at these places, in order from a number on
abbrev pub AreComments : ℕ → List (ℕ × Piece) → List ℕ → List ℕ → Type 0
AreComments from ps [] [] = ⊤
AreComments from ps (place ∷ places) (number ∷ numbers) =
    (from ≤ number) × BeginsComment ps place number × AreComments (suc number) ps places numbers
AreComments from ps _ _ = ⊥

-- nothing is put in the place of a piece
abbrev pub gone_at : ℕ → Splice Put
gone_at number = record { from = number; until = suc number; put = [] }

-- text is the page without the comments that begin at these places, with separators exactly where
-- they have to stand; no other byte changes, and the tokens of the text are those of the pieces
-- that are left
pub record AreCommentsGone (places page text : List ℕ) : Type 0 where
  pub numbers : List ℕ
  pub comments : AreComments 0 (placed_pieces page) places numbers
  pub splices : List (Splice Piece)
  pub separated : AreSeparated (pieces_in page) (map gone_at numbers) splices
  pub mark : mark_len text ≡ mark_len page
  pub bytes : without_mark text ≡ bytes_of (with_splices (pieces_in page) splices)
  pub tokens : html_tokens text ≡ tokens_in (with_splices (pieces_in page) splices)

-- no comment of a page begins at this byte
abbrev pub NoCommentAt : List ℕ → ℕ → Type 0
NoCommentAt page place = (number : ℕ) → BeginsComment (placed_pieces page) place number → ⊥

-- a place is one of these: comments begin at those before it, in order, and where these are less
-- none begins there
pub record LacksComment (page places : List ℕ) (place : ℕ) : Type 0 where
  pub front : List ℕ
  pub back : List ℕ
  pub is : places ≡ front ++ place ∷ back
  pub numbers : List ℕ
  pub before : AreComments 0 (placed_pieces page) front numbers
  pub none : All (λ other. other < place) front → NoCommentAt page place

-- comments begin at these places, with separators exactly where they have to stand, each tag that
-- is left is read so by itself, and yet no text with the bytes that are left says what they say,
-- token by token, and each tag in its bytes
pub record CannotBeWithout (places page : List ℕ) : Type 0 where
  pub numbers : List ℕ
  pub comments : AreComments 0 (placed_pieces page) places numbers
  pub splices : List (Splice Piece)
  pub separated : AreSeparated (pieces_in page) (map gone_at numbers) splices
  pub whole : AreWhole (sayings (with_splices (pieces_in page) splices))
  pub never : IsNeverSaid page (with_splices (pieces_in page) splices)

-- when each error comes, where the comments at these places are to go; nothing is said of when
-- memory runs out
abbrev pub AreCommentsRefused : List ℕ → List ℕ → CommentError → Type 0
AreCommentsRefused places page (error.NoComment place) = LacksComment page places place
AreCommentsRefused places page error.ReadOtherwise = CannotBeWithout places page
AreCommentsRefused places page error.OutOfMemory = ⊤
