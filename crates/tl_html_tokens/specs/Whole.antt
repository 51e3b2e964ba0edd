-- Bytes that are a piece of a page by themselves.
use Rattle.std.specs.Prelude.{◌≡◌, ℕ, ◌-◌, Bool, true, false, List, [], ◌∷◌, drop, take, ⊤}
use Rattle.tl_html_spec.specs.HtmlTokenizer.{HtmlToken}
use Rattle.tl_html_spec.specs.Pieces.{Piece, piece, pieces, placed, runs}
use Rattle.tl_html_tokens.specs.Fronts.{pieces_at}
use Rattle.tl_html_tokens.specs.Modes.{state_of}
use Rattle.tl_html_tokens.specs.Tokens.{mark_len}
use Rattle.tl_html_tokens.specs.declared.mode.Mode.{Mode}
use Rattle.tl_html_tokens.specs.declared.stage.TokenKind.{TokenKind}
use Rattle.tl_html_tokens.specs.declared.stage.TokenKind.TheVariants as kind
use Rattle.tl_html_tokens.specs.declared.token.Token.{Token}

-- from this state of rest the bytes are one piece, with these tokens
abbrev pub IsWhole : Mode → List ℕ → List HtmlToken → Type 0
IsWhole mode bytes tokens =
    pieces_at (state_of mode) bytes ≡ piece (state_of mode) bytes tokens ∷ []

abbrev pub is_tag_kind : TokenKind → Bool
is_tag_kind kind.StartTag = true
is_tag_kind kind.EndTag = true
is_tag_kind _ = false

-- the bytes of a token
abbrev pub bytes_at : List ℕ → Token → List ℕ
bytes_at page token = take (token.end - token.start) (drop token.start page)

-- where a token is a tag, its bytes by themselves are its piece
abbrev pub AreWholeTags : List ℕ → List Token → List (ℕ × Piece) → Type 0
AreWholeTags page [] ps = ⊤
AreWholeTags page tokens [] = ⊤
AreWholeTags page (token ∷ tokens) (p ∷ ps) =
    (is_tag_kind token.kind ≡ true → IsWhole token.mode (bytes_at page token) p.1.tokens)
    × AreWholeTags page tokens ps

-- in a page
abbrev pub TagsAreWhole : List ℕ → List Token → Type 0
TagsAreWhole page tokens = AreWholeTags page tokens (placed (mark_len page) (runs (pieces page)))
