-- What the tokens of a page say is what the standard's tokenizer emits.
use Rattle.std.proofs.Common.{◌≡◌, ℕ, ◌+◌, true, List, [], ◌∷◌, length, map, refl, ap, ◌∙◌}
use Rattle.tl_html_spec.specs.HtmlTokenizer.{HtmlToken, Character, StartTag, EndTag, CommentToken, DoctypeToken}
use Rattle.tl_html_spec.specs.Pieces.{Piece, placed}
use Rattle.tl_html_tokens.specs.Characters.{characters_of}
use Rattle.tl_html_tokens.specs.Comments.{comment_of}
use Rattle.tl_html_tokens.specs.Kinds.{IsDoctype, IsKind}
use Rattle.tl_html_tokens.specs.Said.{AreSaid, IsSaid}
use Rattle.tl_html_tokens.specs.Tokens.{AreTokens}
use Rattle.tl_html_tokens.specs.Whole.{AreWholeTags, IsWhole, bytes_at, is_tag_kind}
use Rattle.tl_html_tokens.specs.declared.stage.TokenKind.{TokenKind}
use Rattle.tl_html_tokens.specs.declared.stage.TokenKind.TheVariants as kind
use Rattle.tl_html_tokens.specs.declared.token.Token.{Token}
use Rattle.tl_patch_elements.specs.Inner.Parts.{AreParts, Says}

doctype_is : (ts : List HtmlToken) → IsDoctype ts → ts ≡ DoctypeToken ∷ []
doctype_is (DoctypeToken ∷ []) h = refl
doctype_is [] h = absurd h
doctype_is (DoctypeToken ∷ t ∷ ts) h = absurd h
doctype_is (Character b ∷ ts) h = absurd h
doctype_is (StartTag n a c ∷ ts) h = absurd h
doctype_is (EndTag n ∷ ts) h = absurd h
doctype_is (CommentToken d ∷ ts) h = absurd h

says : (page : List ℕ) (token : Token) (k : TokenKind) (p : Piece) → p.bytes ≡ bytes_at page token → IsKind k p.tokens → IsSaid token k p →
    (is_tag_kind k ≡ true → IsWhole token.mode (bytes_at page token) p.tokens) → Says page token k p.tokens
says page token kind.Text p e i s w = s ∙ ap (λ x. map Character (characters_of token.mode x)) e
says page token kind.Comment p e i s w = s ∙ ap (λ x. CommentToken (comment_of x) ∷ []) e
says page token kind.StartTag p e i s w = (w refl, i)
says page token kind.EndTag p e i s w = (w refl, i)
says page token kind.Doctype p e i s w = doctype_is p.tokens i
says page token kind.Nothing p e i s w = i

abbrev pub parts_of : List Piece → List (List HtmlToken)
parts_of ps = map (λ (p : Piece). p.tokens) ps

pub are_parts : (page : List ℕ) (tokens : List Token) (n : ℕ) (ps : List Piece) → AreTokens page tokens (placed n ps) → AreSaid tokens ps → AreWholeTags page tokens (placed n ps) →
    AreParts page tokens (parts_of ps)
are_parts page [] n [] h s w = tt
are_parts page [] n (p ∷ ps) h s w = absurd h
are_parts page (token ∷ tokens) n [] h s w = absurd h
are_parts page (token ∷ tokens) n (p ∷ ps) h s w = (
  record { order = h.0.order; within = h.0.within; says = says page token token.kind p h.0.bytes h.0.kind s.0 w.0 },
  are_parts page tokens (n + length p.bytes) ps h.1 s.1 w.1,
)
