-- The pieces of a text from a place on.
use Rattle.std.specs.Prelude.{◌≡◌, ◌-◌, ◌≤◌, ◌<◌, ℕ, List, [], ◌∷◌, length, drop, take}
use Rattle.tl_html_spec.specs.HtmlTokenizer.{HtmlToken, State}
use Rattle.tl_html_spec.specs.Pieces.{Piece, piece, pieces_from, runs, with_piece}
use Rattle.tl_html_spec.specs.Reader.{at, emitted, next}
use Rattle.tl_html_tokens.specs.Ends.{StandsFor}
use Rattle.tl_html_tokens.specs.Kinds.{IsKind}
use Rattle.tl_html_tokens.specs.Modes.{state_of}
use Rattle.tl_html_tokens.specs.declared.mode.Mode.{Mode}
use Rattle.tl_html_tokens.specs.declared.front.Front.{Front}

-- the pieces of a text from a state of rest
abbrev pub pieces_at : State → List ℕ → List Piece
pieces_at state [] = []
pieces_at state (b ∷ text) =
    pieces_from state (next (at state) b) (b ∷ []) (emitted (at state) (b ∷ [])) text

-- what stands in front of a page from a place on is one piece, where characters are joined
pub record IsFront (page : List ℕ) (start : ℕ) (mode : Mode) (front : Front) : Type 0 where
  pub tokens : List HtmlToken
  pub kind : IsKind front.kind tokens
  pub order : start < front.end
  pub within : front.end ≤ length page
  pub read : runs (pieces_at (state_of mode) (drop start page))
      ≡ with_piece (piece (state_of mode) (take (front.end - start) (drop start page)) tokens)
      (runs (pieces_at (state_of front.mode) (drop front.end page)))
  -- the bytes by themselves are it too
  pub alone : runs (pieces_at (state_of mode) (take (front.end - start) (drop start page)))
      ≡ piece (state_of mode) (take (front.end - start) (drop start page)) tokens ∷ []
  pub stands : StandsFor (state_of mode) (take (front.end - start) (drop start page))
      (drop front.end page) (state_of front.mode) tokens
