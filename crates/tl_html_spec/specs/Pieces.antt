-- A page cut where the tokenizer is at rest: each byte stands in one piece, with what the piece
-- emits.
use Rattle.std.specs.Prelude.{◌≡◌, ℕ, ◌+◌, Bool, true, false, ◌&&◌, List, [], ◌∷◌, ◌++◌, length, Option, Some, None, option_map, flat_map, if◌then◌else◌, ⊤}
use Rattle.tl_html_spec.specs.HtmlTokenizer.{HtmlToken, Character, State, data_state, at_end, without_mark}
use Rattle.tl_html_spec.specs.Reader.{Reader, Rest, after, at, emitted, emitting_before, next, rest_before, tokens_of}

-- a tag, a comment, a doctype, a character, or what is dropped: the state of rest before it, its
-- bytes, its tokens
pub record Piece : Type 0 where
  pub rest : State
  pub bytes : List ℕ
  pub tokens : List HtmlToken

abbrev pub bytes_of : List Piece → List ℕ
bytes_of ps = flat_map (λ (p : Piece). p.bytes) ps

abbrev pub tokens_in : List Piece → List HtmlToken
tokens_in ps = flat_map (λ (p : Piece). p.tokens) ps

abbrev pub piece : State → List ℕ → List HtmlToken → Piece
piece rest bytes tokens = record { rest = rest; bytes = bytes; tokens = tokens }

-- the pieces of a text, of which the first has these bytes and tokens already
abbrev pub pieces_from : State → Reader → List ℕ → List HtmlToken → List ℕ → List Piece
pieces_from state r bytes tokens [] = piece state bytes (tokens ++ at_end r.state) ∷ []
pieces_from state r bytes tokens (b ∷ text) =
    elim (rest_before r b) as (λ _. List Piece) [
      | None ↦ pieces_from state (next r b) (bytes ++ b ∷ []) (tokens ++ emitted r (b ∷ [])) text
      | Some rest ↦ (
          piece state bytes (tokens ++ rest.emits)
          ∷ pieces_from rest.state (next (at rest.state) b) (b ∷ [])
          (emitted (at rest.state) (b ∷ [])) text)
    ]

abbrev pub pieces_of : List ℕ → List Piece
pieces_of [] = []
pieces_of (b ∷ text) =
    pieces_from data_state (next (at data_state) b) (b ∷ []) (emitted (at data_state) (b ∷ [])) text

-- the pieces of a page, after its byte order mark
abbrev pub pieces : List ℕ → List Piece
pieces page = pieces_of (without_mark page)

abbrev pub are_characters : List HtmlToken → Bool
are_characters [] = false
are_characters (Character b ∷ []) = true
are_characters (Character b ∷ tokens) = are_characters tokens
are_characters _ = false

-- a piece, joined to the first one after it where both are characters
abbrev pub with_piece : Piece → List Piece → List Piece
with_piece p [] = p ∷ []
with_piece p (q ∷ ps) =
    if are_characters p.tokens && are_characters q.tokens then piece p.rest (p.bytes ++ q.bytes)
    (p.tokens ++ q.tokens) ∷ ps
    else p ∷ q ∷ ps

-- runs of characters as one piece: what a list of tokens with their places holds
abbrev pub runs : List Piece → List Piece
runs [] = []
runs (p ∷ ps) = with_piece p (runs ps)

-- pieces with the places where they begin
abbrev pub placed : ℕ → List Piece → List (ℕ × Piece)
placed place [] = []
placed place (p ∷ ps) = (place, p) ∷ placed (place + length p.bytes) ps

-- what a text emits from a state of rest, with what is pending, before a byte that finds the
-- machine at rest
abbrev pub read_before : State → List ℕ → Option ℕ → Option Rest
read_before state text None = None
read_before state text (Some b) =
    option_map (emitting_before (emitted (at state) text)) (rest_before (after (at state) text) b)

abbrev pub first_byte : List ℕ → Option ℕ
first_byte [] = None
first_byte (b ∷ text) = Some b

-- each piece stands for its tokens where it stands: the machine is at rest before it, and before
-- the next
abbrev pub AreRead : State → List Piece → Type 0
AreRead state [] = ⊤
AreRead state (p ∷ []) = (p.rest ≡ state) × (p.tokens ≡ tokens_of (at state) p.bytes)
AreRead state (p ∷ q ∷ more) =
    (rest : Rest) × (p.rest ≡ state) × (read_before state p.bytes (first_byte q.bytes) ≡ Some rest)
    × (p.tokens ≡ rest.emits) × AreRead rest.state (q ∷ more)
