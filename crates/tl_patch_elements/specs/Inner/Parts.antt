-- What the tokens of a page say.
use Rattle.std.specs.Prelude.{◌≡◌, ◌≤◌, ℕ, List, [], ◌∷◌, length, map, ⊤}
use Rattle.tl_html_spec.specs.HtmlTokenizer.{HtmlToken, Character, CommentToken, DoctypeToken}
use Rattle.tl_html_tokens.specs.Characters.{characters_of}
use Rattle.tl_html_tokens.specs.Comments.{comment_of}
use Rattle.tl_html_tokens.specs.Kinds.{IsEndTag, IsStartTag}
use Rattle.tl_html_tokens.specs.Whole.{IsWhole, bytes_at}
use Rattle.tl_html_tokens.specs.declared.stage.TokenKind.{TokenKind}
use Rattle.tl_html_tokens.specs.declared.stage.TokenKind.TheVariants as kind
use Rattle.tl_html_tokens.specs.declared.token.Token.{Token}

-- a token of this kind says these tokens of the standard
abbrev pub Says : List ℕ → Token → TokenKind → List HtmlToken → Type 0
Says page token kind.Text ts =
    ts ≡ map Character (characters_of token.mode (bytes_at page token))
Says page token kind.Comment ts = ts ≡ CommentToken (comment_of (bytes_at page token)) ∷ []
Says page token kind.StartTag ts = IsWhole token.mode (bytes_at page token) ts × IsStartTag ts
Says page token kind.EndTag ts = IsWhole token.mode (bytes_at page token) ts × IsEndTag ts
Says page token kind.Doctype ts = ts ≡ DoctypeToken ∷ []
Says page token kind.Nothing ts = ts ≡ []

pub record IsPart (page : List ℕ) (token : Token) (ts : List HtmlToken) : Type 0 where
  pub order : token.start ≤ token.end
  pub within : token.end ≤ length page
  pub says : Says page token token.kind ts

-- one by one
abbrev pub AreParts : List ℕ → List Token → List (List HtmlToken) → Type 0
AreParts page [] [] = ⊤
AreParts page (token ∷ tokens) (ts ∷ parts) = IsPart page token ts × AreParts page tokens parts
AreParts page _ _ = ⊥
