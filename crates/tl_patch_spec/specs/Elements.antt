-- The elements of a page, by the pieces that they begin and end at: the start and end tags of
-- `balanced` that belong together.
use Rattle.std.specs.Prelude.{◌≡◌, ℕ, suc, Bool, true, false, List, [], ◌∷◌, ◌++◌, length, map, not, Some, if◌then◌else◌, ⊤}
use Rattle.std.specs.List.{Contains, slice_get}
use Rattle.tl_spec.specs.Lex.ByteClass.{is_void}
use Rattle.tl_html_spec.specs.HtmlTokenizer.{HtmlAttribute, HtmlToken, StartTag, EndTag}
use Rattle.tl_html_spec.specs.Balanced.{Balance, Names, balance, left_open, start}
use Rattle.tl_html_spec.specs.Pieces.{Piece, tokens_in}

-- a token of `balanced`, and the number of the piece at which it comes; an end tag is the page's
-- own there, or is put in
pub data PlacedToken : Type 0 where
  at_piece : ℕ → Bool → HtmlToken → PlacedToken

abbrev pub token_of : PlacedToken → HtmlToken
token_of (at_piece place is_own token) = token

-- tokens at a piece, of which the last is the page's own or isn't
abbrev pub tokens_at : ℕ → Bool → List HtmlToken → List PlacedToken
tokens_at place is_own [] = []
tokens_at place is_own (token ∷ []) = at_piece place is_own token ∷ []
tokens_at place is_own (token ∷ t ∷ tokens) =
    at_piece place false token ∷ tokens_at place is_own (t ∷ tokens)

abbrev pub is_end_tag : HtmlToken → Bool
is_end_tag (EndTag name) = true
is_end_tag _ = false

-- what the tokens of a piece give: of the end tags that an end tag gives the last is its own
abbrev pub balanced_at : ℕ → Balance → List HtmlToken → List PlacedToken
balanced_at place s [] = []
balanced_at place s (token ∷ tokens) =
    tokens_at place (is_end_tag token) (balance s token).emits
    ++ balanced_at place (balance s token).next tokens

abbrev pub balance_after : Balance → List HtmlToken → Balance
balance_after s [] = s
balance_after s (token ∷ tokens) = balance_after (balance s token).next tokens

-- the same of pieces, of which the first has a number
abbrev pub balanced_in : ℕ → Balance → List Piece → List PlacedToken
balanced_in place s [] = []
balanced_in place s (p ∷ ps) =
    balanced_at place s p.tokens ++ balanced_in (suc place) (balance_after s p.tokens) ps

-- the names that pieces leave open
abbrev pub open_names : List Piece → Names
open_names ps = (balance_after start (tokens_in ps)).open_tags

-- the tokens of `balanced` with their places; what is open at the end is closed after the last
-- piece
abbrev pub balanced_pieces : List Piece → List PlacedToken
balanced_pieces ps =
    balanced_in 0 start ps ++ tokens_at (length ps) false (map EndTag (open_names ps))

-- an element goes from the piece of its start tag up to another piece, which is its own end tag or
-- no part of it; a void element, or one without content, is one piece
pub record Element : Type 0 where
  pub name : List ℕ
  pub start : ℕ
  pub end : ℕ
  pub has_end_tag : Bool

-- a start tag whose element is open: its name and its piece
abbrev pub OpenElement : Type 0
OpenElement = List ℕ × ℕ

abbrev pub ended_element : OpenElement → ℕ → Bool → Element
ended_element o end is_own =
    record { name = o.0; start = o.1; end = end; has_end_tag = is_own }

-- the elements that tokens end, where these are open, the innermost first
abbrev pub elements_of : List OpenElement → List PlacedToken → List Element
elements_of stack [] = []
elements_of stack (at_piece place is_own (StartTag name attributes closes) ∷ tokens) =
    if is_void name then ended_element (name, place) place false ∷ elements_of stack tokens
    else elements_of ((name, place) ∷ stack) tokens
elements_of (o ∷ stack) (at_piece place is_own (EndTag name) ∷ tokens) =
    ended_element o place is_own ∷ elements_of stack tokens
elements_of stack (_ ∷ tokens) = elements_of stack tokens

-- the elements that tokens leave open, where these were open before
abbrev pub open_after : List OpenElement → List PlacedToken → List OpenElement
open_after stack [] = stack
open_after stack (at_piece place is_own (StartTag name attributes closes) ∷ tokens) =
    open_after (if is_void name then stack else (name, place) ∷ stack) tokens
open_after (o ∷ stack) (at_piece place is_own (EndTag name) ∷ tokens) = open_after stack tokens
open_after stack (_ ∷ tokens) = open_after stack tokens

-- the elements of pieces, as they end
abbrev pub elements : List Piece → List Element
elements ps = elements_of [] (balanced_pieces ps)

-- an end tag as it stands among tokens
abbrev pub end_tag : Element → PlacedToken
end_tag e = at_piece e.end e.has_end_tag (EndTag e.name)

abbrev pub is_placed_end : PlacedToken → Bool
is_placed_end t = is_end_tag (token_of t)

abbrev pub has_content : Element → Bool
has_content e = not (is_void e.name)

-- each end tag among these tokens closes the innermost start tag that is open, and none stays open
abbrev pub Nest : List PlacedToken → Type 0
Nest tokens = left_open [] (map token_of tokens) ≡ Some []

-- a start tag of this name, which stands at this piece
pub record IsStart (name : List ℕ) (place : ℕ) (token : PlacedToken) : Type 0 where
  pub attributes : List HtmlAttribute
  pub closes : Bool
  pub is_own : Bool
  pub is : token ≡ at_piece place is_own (StartTag name attributes closes)

-- an element's start tag, tokens that nest, and its end tag stand among these tokens; of a void
-- element the start tag alone
pub record IsAmong (tokens : List PlacedToken) (e : Element) : Type 0 where
  pub front : List PlacedToken
  pub first : PlacedToken
  pub content : List PlacedToken
  pub back : List PlacedToken
  pub begins : IsStart e.name e.start first
  pub nests : Nest content
  pub ends : tokens ≡ front ++ first ∷ (content
      ++ (if has_content e then end_tag e ∷ back else back))
  pub alone : has_content e ≡ false → (content ≡ []) × (e.end ≡ e.start)

-- a token stands in the piece of this number
pub record StandsIn (ps : List Piece) (place : ℕ) (token : HtmlToken) : Type 0 where
  pub piece : Piece
  pub at : slice_get ps place ≡ Some piece
  pub among : Contains piece.tokens token

-- whether a token of a page gives a start tag: it is that, or `</p>` or `</br>` that closes nothing
abbrev pub GivesStart : HtmlToken → List ℕ → List HtmlAttribute → Type 0
GivesStart (StartTag n a closes) name attributes = (n ≡ name) × (a ≡ attributes)
GivesStart (EndTag n) name attributes = (n ≡ name) × (attributes ≡ [])
GivesStart _ name attributes = ⊥

-- a start tag stands in its piece, and so does an end tag that is the page's own
abbrev pub IsOfPiece : List Piece → PlacedToken → Type 0
IsOfPiece ps (at_piece place is_own (StartTag name attributes closes)) =
    (token : HtmlToken) × StandsIn ps place token × GivesStart token name attributes
IsOfPiece ps (at_piece place true (EndTag name)) = (own : List ℕ) × StandsIn ps place (EndTag own)
IsOfPiece ps _ = ⊤
