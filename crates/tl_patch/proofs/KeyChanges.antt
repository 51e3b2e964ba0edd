-- What bytes that are one piece by themselves say.
use Rattle.std.proofs.Common.{◌≡◌, ℕ, List, [], ◌∷◌, ap, sym, ◌∙◌}
use Rattle.tl_html_spec.specs.HtmlTokenizer.{HtmlToken}
use Rattle.tl_html_spec.specs.Pieces.{Piece}
use Rattle.tl_html_tokens.specs.Whole.{IsWhole}
use Rattle.tl_html_tokens.specs.declared.mode.Mode.{Mode}

first_tokens : List Piece → List HtmlToken
first_tokens [] = []
first_tokens (p ∷ ps) = p.tokens

-- bytes that are a piece by themselves say one thing
pub whole_same : (m : Mode) (bytes : List ℕ) (ts us : List HtmlToken) → IsWhole m bytes ts → IsWhole m bytes us → ts ≡ us
unfolding first_tokens
whole_same m bytes ts us h k = ap first_tokens (sym h ∙ k)
