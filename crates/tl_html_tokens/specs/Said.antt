-- What the tokens of a page say that are texts and comments.
use Rattle.std.specs.Prelude.{◌≡◌, ℕ, List, [], ◌∷◌, map, ⊤}
use Rattle.tl_html_spec.specs.HtmlTokenizer.{Character, CommentToken}
use Rattle.tl_html_spec.specs.Pieces.{Piece, pieces, runs}
use Rattle.tl_html_tokens.specs.declared.stage.TokenKind.{TokenKind}
use Rattle.tl_html_tokens.specs.declared.stage.TokenKind.TheVariants as kind
use Rattle.tl_html_tokens.specs.declared.token.Token.{Token}
use Rattle.tl_html_tokens.specs.Characters.{characters_of}
use Rattle.tl_html_tokens.specs.Comments.{comment_of}

-- a text is its characters, a comment its data; of other tokens nothing is said here
abbrev pub IsSaid : Token → TokenKind → Piece → Type 0
IsSaid token kind.Text p = p.tokens ≡ map Character (characters_of token.mode p.bytes)
IsSaid token kind.Comment p = p.tokens ≡ CommentToken (comment_of p.bytes) ∷ []
IsSaid token _ p = ⊤

-- one by one
abbrev pub AreSaid : List Token → List Piece → Type 0
AreSaid [] ps = ⊤
AreSaid (token ∷ tokens) [] = ⊤
AreSaid (token ∷ tokens) (p ∷ ps) = IsSaid token token.kind p × AreSaid tokens ps

abbrev pub AreSaidOf : List ℕ → List Token → Type 0
AreSaidOf page tokens = AreSaid tokens (runs (pieces page))
