-- The tokens of a page with their places.
use Rattle.std.specs.Prelude.{◌≡◌, ◌≤◌, ℕ, ◌-◌, ◌==◌, ◌&&◌, Bool, true, false, List, [], ◌∷◌, length, drop, take, if◌then◌else◌, ⊤}
use Rattle.std.specs.List.{starts_with}
use Rattle.tl_html_spec.specs.Pieces.{Piece, pieces, placed, runs}
use Rattle.tl_html_tokens.specs.Kinds.{IsKind}
use Rattle.tl_html_tokens.specs.Modes.{state_of}
use Rattle.tl_html_tokens.specs.declared.stage.TokenKind.{TokenKind}
use Rattle.tl_html_tokens.specs.declared.stage.TokenKind.TheVariants as kind
use Rattle.tl_html_tokens.specs.declared.token.Token.{Token}

abbrev pub is_text : TokenKind → Bool
is_text kind.Text = true
is_text _ = false

abbrev pub are_texts : Token → Token → Bool
are_texts first second = is_text first.kind && is_text second.kind

-- of two tokens side by side: what comes before the last one
abbrev pub pushed_of : Token → Token → List Token
pushed_of first second = if are_texts first second then [] else first ∷ []

-- and the last one
abbrev pub last_of : Token → Token → Token
last_of first second =
    if are_texts first second then record {
      start = first.start;
      end = second.end;
      kind = first.kind;
      mode = first.mode;
    }
    else second

-- a token is a piece of the page: its place, its bytes, the state of rest before it, and what it is
pub record IsToken (page : List ℕ) (token : Token) (place : ℕ) (p : Piece) : Type 0 where
  pub start : token.start ≡ place
  pub order : token.start ≤ token.end
  pub within : token.end ≤ length page
  pub bytes : p.bytes ≡ take (token.end - token.start) (drop token.start page)
  pub rest : p.rest ≡ state_of token.mode
  pub kind : IsKind token.kind p.tokens

-- tokens are these pieces, one by one
abbrev pub AreTokens : List ℕ → List Token → List (ℕ × Piece) → Type 0
AreTokens page [] [] = ⊤
AreTokens page (token ∷ tokens) (p ∷ ps) = IsToken page token p.0 p.1 × AreTokens page tokens ps
AreTokens page _ _ = ⊥

-- how many bytes a byte order mark takes
abbrev pub mark_len : List ℕ → ℕ
mark_len page = if starts_with ◌==◌ page (0xEF ∷ 0xBB ∷ 0xBF ∷ []) then 3 else 0

-- the tokens of a page are its pieces, where characters side by side are one
abbrev pub AreTokensOf : List ℕ → List Token → Type 0
AreTokensOf page tokens = AreTokens page tokens (placed (mark_len page) (runs (pieces page)))

-- tokens side by side, from one place to another
abbrev pub AreSideBySide : ℕ → List Token → ℕ → Type 0
AreSideBySide start [] end = start ≡ end
AreSideBySide start (token ∷ tokens) end =
    (token.start ≡ start) × AreSideBySide token.end tokens end
