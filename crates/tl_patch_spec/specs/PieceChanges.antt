-- What edits do to the pieces of a page, from the left to the right, and when each is read as
-- asked.
use Rattle.std.specs.Prelude.{◌≡◌, ℕ, true, List, [], ◌∷◌, ◌++◌, Some, ⊤}
use Rattle.tl_html_spec.specs.HtmlTokenizer.{State}
use Rattle.tl_html_spec.specs.Pieces.{AreRead, Piece, first_byte}
use Rattle.tl_html_spec.specs.Reader.{after, at, emitted, is_at_rest}

-- a piece stays, gives way to another one, or several give way to others
pub data PieceChange : Type 0 where
  Keep : Piece → PieceChange
  Exchange : Piece → Piece → PieceChange
  Replace : List Piece → List Piece → PieceChange

abbrev pub old_pieces : List PieceChange → List Piece
old_pieces [] = []
old_pieces (Keep p ∷ changes) = p ∷ old_pieces changes
old_pieces (Exchange p q ∷ changes) = p ∷ old_pieces changes
old_pieces (Replace ps qs ∷ changes) = ps ++ old_pieces changes

abbrev pub new_pieces : List PieceChange → List Piece
new_pieces [] = []
new_pieces (Keep p ∷ changes) = p ∷ new_pieces changes
new_pieces (Exchange p q ∷ changes) = q ∷ new_pieces changes
new_pieces (Replace ps qs ∷ changes) = qs ++ new_pieces changes

-- both end there, or go on with the same byte
abbrev pub GoOnAlike : List Piece → List Piece → Type 0
GoOnAlike [] [] = ⊤
GoOnAlike (p ∷ ps) (q ∷ qs) = first_byte p.bytes ≡ first_byte q.bytes
GoOnAlike _ _ = ⊥

-- both end there, or go on
abbrev pub GoOnBoth : List Piece → List Piece → Type 0
GoOnBoth [] [] = ⊤
GoOnBoth (p ∷ ps) (q ∷ qs) = (b : ℕ) × (first_byte q.bytes ≡ Some b)
GoOnBoth _ _ = ⊥

-- two pieces that alone bring the tokenizer to the same state of rest, each with its own tokens: as
-- a tag and the tag with a change
pub record StandAlike (p q : Piece) : Type 0 where
  pub until : State
  pub is_rest : is_at_rest until ≡ true
  pub place : q.rest ≡ p.rest
  pub old_tokens : emitted (at p.rest) p.bytes ≡ p.tokens
  pub old_state : after (at p.rest) p.bytes ≡ at until
  pub new_tokens : emitted (at p.rest) q.bytes ≡ q.tokens
  pub new_state : after (at p.rest) q.bytes ≡ at until

-- the first piece begins in a state
abbrev pub BeginIn : State → List Piece → Type 0
BeginIn state [] = ⊥
BeginIn state (p ∷ ps) = p.rest ≡ state

-- so it does, or nothing follows
abbrev pub GoOnIn : State → List Piece → Type 0
GoOnIn state [] = ⊤
GoOnIn state (p ∷ ps) = p.rest ≡ state

-- before a piece that stays the next byte does too, or the piece leaves nothing pending (it is
-- exchanged for itself); what is replaced begins in a state of rest (`data`, a title's), as does
-- what follows it, before which the new pieces are read
abbrev pub AreClosed : List PieceChange → Type 0
AreClosed [] = ⊤
AreClosed (Keep p ∷ changes) =
    GoOnAlike (old_pieces changes) (new_pieces changes) × AreClosed changes
AreClosed (Exchange p q ∷ changes) =
    StandAlike p q × GoOnBoth (old_pieces changes) (new_pieces changes) × AreClosed changes
AreClosed (Replace ps qs ∷ changes) =
    (state : State) × BeginIn state (ps ++ old_pieces changes) × GoOnIn state (old_pieces changes)
    × (AreRead state (new_pieces changes) → AreRead state (qs ++ new_pieces changes))
    × AreClosed changes
