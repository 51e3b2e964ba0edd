-- What the tokens of a page say that are texts and comments.
use Rattle.std.proofs.Common.{◌≡◌, ℕ, ◌+◌, List, [], ◌∷◌, length, map, refl, ap, sym, ◌∙◌}
use Rattle.tl_html_spec.specs.HtmlTokenizer as T
use Rattle.tl_html_spec.specs.HtmlTokenizer.{Character, State, data_state, with_feeds, without_mark}
use Rattle.tl_html_spec.specs.Pieces.{Piece, pieces, pieces_of, placed, runs}
use Rattle.tl_html_spec.specs.Unescaped.{unescaped_text}
use Rattle.tl_html_spec.proofs.Cutting.{page_is_read}
use Rattle.tl_html_tokens.specs.Characters.{characters_of, without_nul}
use Rattle.tl_html_tokens.specs.Kinds.{IsKind}
use Rattle.tl_html_tokens.specs.Modes.{state_of}
use Rattle.tl_html_tokens.specs.Said.{AreSaid, AreSaidOf, IsSaid}
use Rattle.tl_html_tokens.specs.Tokens.{AreTokens, AreTokensOf, mark_len}
use Rattle.tl_html_tokens.specs.declared.mode.Mode.{Mode}
use Rattle.tl_html_tokens.specs.declared.mode.Mode.TheVariants as mode
use Rattle.tl_html_tokens.specs.declared.stage.TokenKind.{TokenKind}
use Rattle.tl_html_tokens.specs.declared.stage.TokenKind.TheVariants as kind
use Rattle.tl_html_tokens.specs.declared.token.Token.{Token}
use Rattle.tl_html_tokens.proofs.Saying.{ArePieces, text_said}
use Rattle.tl_html_tokens.proofs.TextRuns.{AreRuns, IsRun, run_text, runs_said}

-- the characters of a text go by its state of rest
abbrev by_state : State → List ℕ → List ℕ
by_state T.data_state bytes = unescaped_text (with_feeds bytes)
by_state (T.raw (T.rcdata name)) bytes = unescaped_text (without_nul (with_feeds bytes))
by_state _ bytes = without_nul (with_feeds bytes)

characters_by : (m : Mode) (bytes : List ℕ) → characters_of m bytes ≡ by_state (state_of m) bytes
characters_by mode.Data bytes = refl
characters_by mode.Title bytes = refl
characters_by mode.Textarea bytes = refl
characters_by mode.ContextText bytes = refl
characters_by mode.Style bytes = refl
characters_by mode.Xmp bytes = refl
characters_by mode.Iframe bytes = refl
characters_by mode.Noembed bytes = refl
characters_by mode.Noframes bytes = refl
characters_by mode.Noscript bytes = refl
characters_by mode.Script bytes = refl
characters_by mode.ScriptEscaped bytes = refl
characters_by mode.ScriptEscapedDash bytes = refl
characters_by mode.ScriptEscapedDashDash bytes = refl
characters_by mode.Plaintext bytes = refl

same_characters : (m n : Mode) (bytes : List ℕ) → state_of m ≡ state_of n → characters_of m bytes ≡ characters_of n bytes
same_characters m n bytes e = characters_by m bytes ∙ ap (λ (s : State). by_state s bytes) e ∙ sym (characters_by n bytes)

one_said : (token : Token) (k : TokenKind) (m : Mode) (p : Piece) (ps : List Piece) → IsRun m p ps → p.rest ≡ state_of token.mode → IsKind k p.tokens → IsSaid token k p
one_said token kind.Text m p ps h e i = run_text m p ps h i ∙ ap (map Character) (same_characters m token.mode p.bytes (sym h.rest ∙ e))
one_said token kind.Comment m p ps h e i = h.comment i
one_said token kind.StartTag m p ps h e i = tt
one_said token kind.EndTag m p ps h e i = tt
one_said token kind.Doctype m p ps h e i = tt
one_said token kind.Nothing m p ps h e i = tt

all_said : (page : List ℕ) (tokens : List Token) (n : ℕ) (ps : List Piece) (m : Mode) → AreTokens page tokens (placed n ps) → AreRuns m ps → AreSaid tokens ps
all_said page [] n ps m h r = tt
all_said page (token ∷ tokens) n [] m h r = tt
all_said page (token ∷ tokens) n (p ∷ ps) m h r =
    (one_said token token.kind m p ps r.0 h.0.rest h.0.kind, all_said page tokens (n + length p.bytes) ps r.1 h.1 r.3)

text_pieces : (text : List ℕ) → ArePieces mode.Data (pieces_of text)
text_pieces [] = tt
text_pieces (b ∷ text) = text_said mode.Data (b ∷ text)

pub tokens_said : (page : List ℕ) (tokens : List Token) → AreTokensOf page tokens → AreSaidOf page tokens
tokens_said page tokens h =
    all_said page tokens (mark_len page) (runs (pieces page)) mode.Data h
    (runs_said (pieces page) mode.Data (text_pieces (without_mark page)) (page_is_read page))
