-- What a token of a page says goes by its kind, its mode and its bytes.
use Rattle.std.proofs.Common.{◌≡◌, ℕ, ◌==◌, true, List, [], ◌∷◌, map, refl, ap, sym, subst, ◌∙◌, if◌then◌else◌}
use Rattle.tl_html_spec.specs.HtmlTokenizer.{Character, CommentToken, DoctypeToken, EndTag, HtmlToken, StartTag}
use Rattle.tl_html_spec.specs.Pieces.{Piece}
use Rattle.tl_html_tokens.specs.Characters.{characters_of}
use Rattle.tl_html_tokens.specs.Comments.{comment_of}
use Rattle.tl_html_tokens.specs.Kinds.{IsDoctype, IsKind}
use Rattle.tl_html_tokens.specs.Said.{IsSaid}
use Rattle.tl_html_tokens.specs.Tokens.{IsToken}
use Rattle.tl_html_tokens.specs.Whole.{IsWhole, bytes_at, is_tag_kind}
use Rattle.tl_html_tokens.specs.declared.mode.Mode.{Mode}
use Rattle.tl_html_tokens.specs.declared.mode.Mode.TheVariants as mode
use Rattle.tl_html_tokens.specs.declared.stage.TokenKind.{TokenKind}
use Rattle.tl_html_tokens.specs.declared.stage.TokenKind.TheVariants as kind
use Rattle.tl_html_tokens.specs.declared.token.Token.{Token}
use Rattle.tl_patch.specs.Inner.Steps.{kind_number, mode_number}

abbrev pub Says : TokenKind → Mode → List ℕ → List HtmlToken → Type 0
Says kind.Text mode bytes tokens = tokens ≡ map Character (characters_of mode bytes)
Says kind.Comment mode bytes tokens = tokens ≡ CommentToken (comment_of bytes) ∷ []
Says kind.Doctype mode bytes tokens = tokens ≡ DoctypeToken ∷ []
Says kind.Nothing mode bytes tokens = tokens ≡ []
Says kind.StartTag mode bytes tokens = IsWhole mode bytes tokens
Says kind.EndTag mode bytes tokens = IsWhole mode bytes tokens

doctype_is : (ts : List HtmlToken) → IsDoctype ts → ts ≡ DoctypeToken ∷ []
doctype_is (DoctypeToken ∷ []) h = refl
doctype_is [] h = absurd h
doctype_is (DoctypeToken ∷ t ∷ ts) h = absurd h
doctype_is (StartTag n a c ∷ ts) h = absurd h
doctype_is (EndTag n ∷ ts) h = absurd h
doctype_is (Character b ∷ ts) h = absurd h
doctype_is (CommentToken n ∷ ts) h = absurd h

by_kind : (k : TokenKind) (t : Token) (p : Piece) (bytes : List ℕ) → p.bytes ≡ bytes → IsKind k p.tokens →
    (is_tag_kind k ≡ true → IsWhole t.mode bytes p.tokens) → IsSaid t k p → Says k t.mode p.bytes p.tokens
by_kind kind.Text t p bytes e k w s = s
by_kind kind.Comment t p bytes e k w s = s
by_kind kind.Doctype t p bytes e k w s = doctype_is p.tokens k
by_kind kind.Nothing t p bytes e k w s = k
by_kind kind.StartTag t p bytes e k w s = subst (λ bs. IsWhole t.mode bs p.tokens) (sym e) (w refl)
by_kind kind.EndTag t p bytes e k w s = subst (λ bs. IsWhole t.mode bs p.tokens) (sym e) (w refl)

pub says_of : (page : List ℕ) (t : Token) (place : ℕ) (p : Piece) → IsToken page t place p →
    (is_tag_kind t.kind ≡ true → IsWhole t.mode (bytes_at page t) p.tokens) → IsSaid t t.kind p → Says t.kind t.mode p.bytes p.tokens
says_of page t place p h w s = by_kind t.kind t p (bytes_at page t) h.bytes h.kind w s

-- kinds and modes go by their numbers

kind_from : ℕ → TokenKind
kind_from n =
    if n == 0 then kind.Text else if n == 1 then kind.StartTag else if n == 2 then kind.EndTag
    else if n == 3 then kind.Comment else if n == 4 then kind.Doctype else kind.Nothing

kind_back : (k : TokenKind) → kind_from (kind_number k) ≡ k
unfolding kind_from
kind_back kind.Text = refl
kind_back kind.StartTag = refl
kind_back kind.EndTag = refl
kind_back kind.Comment = refl
kind_back kind.Doctype = refl
kind_back kind.Nothing = refl

pub kind_same : (k l : TokenKind) → kind_number k ≡ kind_number l → k ≡ l
kind_same k l e = sym (kind_back k) ∙ ap kind_from e ∙ kind_back l

mode_from : ℕ → Mode
mode_from n =
    if n == 0 then mode.Data else if n == 1 then mode.Title else if n == 2 then mode.Textarea
    else if n == 3 then mode.Style else if n == 4 then mode.Xmp else if n == 5 then mode.Iframe
    else if n == 6 then mode.Noembed else if n == 7 then mode.Noframes else if n == 8 then mode.Script
    else if n == 9 then mode.ScriptEscaped else if n == 10 then mode.ScriptEscapedDash
    else if n == 11 then mode.ScriptEscapedDashDash else if n == 12 then mode.Plaintext
    else if n == 13 then mode.Noscript else mode.ContextText

mode_back : (m : Mode) → mode_from (mode_number m) ≡ m
unfolding mode_from
mode_back mode.Data = refl
mode_back mode.Title = refl
mode_back mode.Textarea = refl
mode_back mode.ContextText = refl
mode_back mode.Style = refl
mode_back mode.Xmp = refl
mode_back mode.Iframe = refl
mode_back mode.Noembed = refl
mode_back mode.Noframes = refl
mode_back mode.Noscript = refl
mode_back mode.Script = refl
mode_back mode.ScriptEscaped = refl
mode_back mode.ScriptEscapedDash = refl
mode_back mode.ScriptEscapedDashDash = refl
mode_back mode.Plaintext = refl

pub mode_same : (m n : Mode) → mode_number m ≡ mode_number n → m ≡ n
mode_same m n e = sym (mode_back m) ∙ ap mode_from e ∙ mode_back n
