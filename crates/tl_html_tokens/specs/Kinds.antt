-- What the tokens of a piece are.
use Rattle.std.specs.Prelude.{◌≡◌, true, List, [], ◌∷◌, ⊤}
use Rattle.tl_html_spec.specs.HtmlTokenizer.{HtmlToken, StartTag, EndTag, CommentToken, DoctypeToken}
use Rattle.tl_html_spec.specs.Pieces.{are_characters}
use Rattle.tl_html_tokens.specs.declared.stage.TokenKind.{TokenKind}
use Rattle.tl_html_tokens.specs.declared.stage.TokenKind.TheVariants as kind

abbrev pub IsStartTag : List HtmlToken → Type 0
IsStartTag (StartTag name attributes closes ∷ []) = ⊤
IsStartTag _ = ⊥

abbrev pub IsEndTag : List HtmlToken → Type 0
IsEndTag (EndTag name ∷ []) = ⊤
IsEndTag _ = ⊥

abbrev pub IsComment : List HtmlToken → Type 0
IsComment (CommentToken bytes ∷ []) = ⊤
IsComment _ = ⊥

abbrev pub IsDoctype : List HtmlToken → Type 0
IsDoctype (DoctypeToken ∷ []) = ⊤
IsDoctype _ = ⊥

-- one token of this kind, or characters, or none
abbrev pub IsKind : TokenKind → List HtmlToken → Type 0
IsKind kind.Text tokens = are_characters tokens ≡ true
IsKind kind.StartTag tokens = IsStartTag tokens
IsKind kind.EndTag tokens = IsEndTag tokens
IsKind kind.Comment tokens = IsComment tokens
IsKind kind.Doctype tokens = IsDoctype tokens
IsKind kind.Nothing tokens = tokens ≡ []
