-- The tag that is meant, and the page that is written.
use Rattle.std.specs.Prelude.{◌≡◌, ◌==◌, ℕ, Bool, true, false, List, [], ◌∷◌, length, Some}
use Rattle.std.specs.List.{slice_get, starts_with}
use Rattle.tl_html_spec.specs.HtmlTokenizer.{HtmlToken, html_tokens, without_mark}
use Rattle.tl_html_spec.specs.Pieces.{Piece, bytes_of, pieces, placed, runs, tokens_in}
use Rattle.tl_html_tokens.specs.Kinds.{IsStartTag}
use Rattle.tl_html_tokens.specs.Tokens.{mark_len}
use Rattle.tl_html_tokens.specs.Whole.{IsWhole, bytes_at}
use Rattle.tl_html_tokens.specs.declared.mode.Mode.{Mode}
use Rattle.tl_html_tokens.specs.declared.stage.TokenKind.TheVariants as kind
use Rattle.tl_html_tokens.specs.declared.token.Token.{Token}
use Rattle.tl_patch_edit.specs.Inner.Parts.{ArePieces, Part, Say, part_bytes}
use Rattle.tl_patch_edit.specs.Sayings.{AreWhole, Saying, sayings}
use Rattle.tl_patch_edit.specs.Inner.Seams.{HoldTexts}
use Rattle.tl_patch_edit.specs.Seams.{AreSeparated}
use Rattle.tl_patch_spec.specs.Patches.{Put, start_name}
use Rattle.tl_patch_spec.specs.Splices.{Splice, are_ordered, with_splices}

-- the token of this number is a start tag at this place
pub record IsStartAt (tokens : List Token) (place number : ℕ) (token : Token) : Type 0 where
  pub is : slice_get tokens number ≡ Some token
  pub start : token.start ≡ place
  pub kind : token.kind ≡ kind.StartTag

-- a start tag of a page, with its piece
pub record IsStartOf (page : List ℕ) (number : ℕ) (token : Token) : Type 0 where
  pub piece : Piece
  pub begins : slice_get (placed (mark_len page) (runs (pieces page))) number
      ≡ Some (token.start, piece)
  pub stands : slice_get (runs (pieces page)) number ≡ Some piece
  pub whole : IsWhole token.mode (bytes_at page token) piece.tokens
  pub start : IsStartTag piece.tokens

-- the name of a start tag by itself, in lower case
pub record IsTagName (bytes name : List ℕ) : Type 0 where
  pub named : (m : Mode) (ts : List HtmlToken) → IsWhole m bytes ts → IsStartTag ts →
      start_name ts ≡ Some name

abbrev pub has_mark : List ℕ → Bool
has_mark page = starts_with ◌==◌ page (0xEF ∷ 0xBB ∷ 0xBF ∷ [])

abbrev pub mark_bytes : Bool → List ℕ
mark_bytes true = 0xEF ∷ 0xBB ∷ 0xBF ∷ []
mark_bytes false = []

-- text is these parts, after a byte order mark exactly where the page has one, and is read so
pub record IsReadAs (page : List ℕ) (parts : List Part) (text : List ℕ) : Type 0 where
  pub mark : mark_len text ≡ mark_len page
  pub bytes : without_mark text ≡ part_bytes parts
  pub said : (said : List Saying) → Say parts said → sayings (pieces text) ≡ said

-- no text is these parts, after a byte order mark exactly where the page has one, and is read so
pub record IsNeverRead (page : List ℕ) (parts : List Part) : Type 0 where
  pub never : (text : List ℕ) → mark_len text ≡ mark_len page →
      without_mark text ≡ part_bytes parts → (said : List Saying) → Say parts said →
      sayings (pieces text) ≡ said → ⊥

-- text is a page of these parts with the splices that are asked for, in order, and is read so
pub record IsSplicedPage (asks : List (Splice Put)) (page text : List ℕ) (ps : List Piece) :
    Type 0 where
  pub splices : List (Splice Piece)
  pub ordered : are_ordered 0 (length ps) asks ≡ true
  pub asked : AreSeparated ps asks splices
  pub mark : mark_len text ≡ mark_len page
  pub bytes : without_mark text ≡ bytes_of (with_splices ps splices)
  pub tokens : html_tokens text ≡ tokens_in (with_splices ps splices)

-- no text with the bytes of these pieces, after a byte order mark exactly where the page has one,
-- says what they say
abbrev pub IsNeverSaid : List ℕ → List Piece → Type 0
IsNeverSaid page ps = (text : List ℕ) → mark_len text ≡ mark_len page →
    without_mark text ≡ bytes_of ps → sayings (pieces text) ≡ sayings ps → ⊥

-- the splices that are asked for are in order, each tag that they leave is read so by itself, and
-- no text is read as they are
pub record IsNeverSpliced (asks : List (Splice Put)) (page : List ℕ) (ps : List Piece) :
    Type 0 where
  pub splices : List (Splice Piece)
  pub ordered : are_ordered 0 (length ps) asks ≡ true
  pub asked : AreSeparated ps asks splices
  pub whole : AreWhole (sayings (with_splices ps splices))
  pub never : IsNeverSaid page (with_splices ps splices)

abbrev pub IsNeverSplicedOf : List (Splice Put) → List Part → List ℕ → Type 0
IsNeverSplicedOf asks parts page =
    (ps : List Piece) → ArePieces parts ps → HoldTexts ps → IsNeverSpliced asks page ps

abbrev pub IsSplicedPageOf : List (Splice Put) → List Part → List ℕ → List ℕ → Type 0
IsSplicedPageOf asks parts page text =
    (ps : List Piece) → ArePieces parts ps → HoldTexts ps → IsSplicedPage asks page text ps
