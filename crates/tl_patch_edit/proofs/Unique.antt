-- That tokens are those of a page, from what a tokenized page keeps of it: that it is so, in some way.
use Rattle.std.proofs.Common.{◌≡◌, ◌≤◌, ◌-◌, ℕ, zero, suc, List, [], ◌∷◌, None, Option, Some, ap, codes, length, drop, sym, take}
use Rattle.std.specs.Prelude.{⊤}
use Rattle.std.proofs.Math.Logic.{∥∥₁_elim}
use Rattle.std.proofs.Props.{props}
use Rattle.std.proofs.lemmas.Option.{none-some, same_Some}
use Rattle.tl_html_spec.specs.HtmlTokenizer.{Character, CommentToken, DoctypeToken, EndTag, HtmlToken, Raw, StartTag, State, data_state, plaintext, raw, rawtext, rcdata, script_data, script_data_escaped, script_data_escaped_dash, script_data_escaped_dash_dash}
use Rattle.tl_html_spec.specs.Pieces.{Piece, pieces, placed, runs}
use Rattle.tl_html_tokens.specs.Kinds.{IsComment, IsDoctype, IsEndTag, IsKind, IsStartTag}
use Rattle.tl_html_tokens.specs.Modes.{state_of}
use Rattle.tl_html_tokens.specs.Tokens.{AreTokens, AreTokensOf, mark_len}
use Rattle.tl_html_tokens.specs.declared.mode.Mode.{Mode}
use Rattle.tl_html_tokens.specs.declared.mode.Mode.TheVariants as mode
use Rattle.tl_html_tokens.specs.declared.stage.TokenKind.{TokenKind}
use Rattle.tl_html_tokens.specs.declared.stage.TokenKind.TheVariants as kind
use Rattle.tl_html_tokens.specs.declared.token.Token.{Token}

-- the states of rest as numbers and raw texts: no other state is the state of a mode

code : State → Option (ℕ × Raw)
code data_state = Some (0, script_data)
code (raw r) = Some (1, r)
code plaintext = Some (2, script_data)
code _ = None

decoded : ℕ × Raw → State
decoded (zero, r) = data_state
decoded (suc zero, r) = raw r
decoded (suc (suc n), r) = plaintext

back : (s : State) (b : ℕ × Raw) → code s ≡ Some b → s ≡ decoded b
unfolding code decoded
back data_state b e = (let is : b ≡ (0, script_data) = sym (same_Some _ b e) in sym (ap decoded is))
back (raw r) b e = (let is : b ≡ (1, r) = sym (same_Some _ b e) in sym (ap decoded is))
back plaintext b e = (let is : b ≡ (2, script_data) = sym (same_Some _ b e) in sym (ap decoded is))
back _ b e = absurd (none-some b e)

mode_back : (s : State) (m : Mode) → code s ≡ code (state_of m) → s ≡ state_of m
unfolding code decoded
mode_back s mode.Data e = back s (0, script_data) e
mode_back s mode.Title e = back s (1, rcdata (codes "title")) e
mode_back s mode.Textarea e = back s (1, rcdata (codes "textarea")) e
mode_back s mode.ContextText e = back s (1, rcdata []) e
mode_back s mode.Style e = back s (1, rawtext (codes "style")) e
mode_back s mode.Xmp e = back s (1, rawtext (codes "xmp")) e
mode_back s mode.Iframe e = back s (1, rawtext (codes "iframe")) e
mode_back s mode.Noembed e = back s (1, rawtext (codes "noembed")) e
mode_back s mode.Noframes e = back s (1, rawtext (codes "noframes")) e
mode_back s mode.Noscript e = back s (1, rawtext (codes "noscript")) e
mode_back s mode.Script e = back s (1, script_data) e
mode_back s mode.ScriptEscaped e = back s (1, script_data_escaped) e
mode_back s mode.ScriptEscapedDash e = back s (1, script_data_escaped_dash) e
mode_back s mode.ScriptEscapedDashDash e = back s (1, script_data_escaped_dash_dash) e
mode_back s mode.Plaintext e = back s (2, script_data) e

-- what the tokens of a piece are

HtmlToken-set : IsSet HtmlToken
HtmlToken-set = hlevel props

Start-prop : (ts : List HtmlToken) → IsProp (IsStartTag ts)
Start-prop [] = hlevel props
Start-prop (StartTag n a c ∷ []) = hlevel props
Start-prop (StartTag n a c ∷ t ∷ ts) = hlevel props
Start-prop (EndTag n ∷ ts) = hlevel props
Start-prop (Character c ∷ ts) = hlevel props
Start-prop (CommentToken b ∷ ts) = hlevel props
Start-prop (DoctypeToken ∷ ts) = hlevel props

End-prop : (ts : List HtmlToken) → IsProp (IsEndTag ts)
End-prop [] = hlevel props
End-prop (EndTag n ∷ []) = hlevel props
End-prop (EndTag n ∷ t ∷ ts) = hlevel props
End-prop (StartTag n a c ∷ ts) = hlevel props
End-prop (Character c ∷ ts) = hlevel props
End-prop (CommentToken b ∷ ts) = hlevel props
End-prop (DoctypeToken ∷ ts) = hlevel props

Comment-prop : (ts : List HtmlToken) → IsProp (IsComment ts)
Comment-prop [] = hlevel props
Comment-prop (CommentToken b ∷ []) = hlevel props
Comment-prop (CommentToken b ∷ t ∷ ts) = hlevel props
Comment-prop (StartTag n a c ∷ ts) = hlevel props
Comment-prop (EndTag n ∷ ts) = hlevel props
Comment-prop (Character c ∷ ts) = hlevel props
Comment-prop (DoctypeToken ∷ ts) = hlevel props

Doctype-prop : (ts : List HtmlToken) → IsProp (IsDoctype ts)
Doctype-prop [] = hlevel props
Doctype-prop (DoctypeToken ∷ []) = hlevel props
Doctype-prop (DoctypeToken ∷ t ∷ ts) = hlevel props
Doctype-prop (StartTag n a c ∷ ts) = hlevel props
Doctype-prop (EndTag n ∷ ts) = hlevel props
Doctype-prop (Character c ∷ ts) = hlevel props
Doctype-prop (CommentToken b ∷ ts) = hlevel props

Kind-prop : (k : TokenKind) (ts : List HtmlToken) → IsProp (IsKind k ts)
Kind-prop kind.Text ts = hlevel props
Kind-prop kind.StartTag ts = Start-prop ts
Kind-prop kind.EndTag ts = End-prop ts
Kind-prop kind.Comment ts = Comment-prop ts
Kind-prop kind.Doctype ts = Doctype-prop ts
Kind-prop kind.Nothing ts = (let set : IsSet (List HtmlToken) = hlevel (props, HtmlToken-set) in set ts [])

-- the same facts of a token, each of which is proved in one way

record IsKept (page : List ℕ) (token : Token) (place : ℕ) (p : Piece) : Type 0 where
  start : token.start ≡ place
  order : token.start ≤ token.end
  within : token.end ≤ length page
  bytes : p.bytes ≡ take (token.end - token.start) (drop token.start page)
  rest : code p.rest ≡ code (state_of token.mode)
  kind : IsKind token.kind p.tokens

AreKept : List ℕ → List Token → List (ℕ × Piece) → Type 0
AreKept page [] [] = ⊤
AreKept page (token ∷ tokens) (p ∷ ps) = IsKept page token p.0 p.1 × AreKept page tokens ps
AreKept page _ _ = ⊥

kept : (page : List ℕ) (tokens : List Token) (ps : List (ℕ × Piece)) → AreTokens page tokens ps → AreKept page tokens ps
unfolding AreKept
kept page [] [] h = tt
kept page [] (p ∷ ps) h = h
kept page (t ∷ tokens) [] h = h
kept page (t ∷ tokens) (p ∷ ps) h =
    (record { start = (h.0).start; order = (h.0).order; within = (h.0).within; bytes = (h.0).bytes; rest = ap code (h.0).rest; kind = (h.0).kind }, kept page tokens ps h.1)

from_kept : (page : List ℕ) (tokens : List Token) (ps : List (ℕ × Piece)) → AreKept page tokens ps → AreTokens page tokens ps
unfolding AreKept
from_kept page [] [] h = tt
from_kept page [] (p ∷ ps) h = h
from_kept page (t ∷ tokens) [] h = h
from_kept page (t ∷ tokens) (p ∷ ps) h =
    (record { start = (h.0).start; order = (h.0).order; within = (h.0).within; bytes = (h.0).bytes; rest = mode_back (p.1).rest t.mode (h.0).rest; kind = (h.0).kind }, from_kept page tokens ps h.1)

Kept-prop : (page : List ℕ) (token : Token) (place : ℕ) (p : Piece) → IsProp (IsKept page token place p)
Kept-prop page token place p x y =
    let start_prop : IsProp (token.start ≡ place) = hlevel props in
    let order_prop : IsProp (token.start ≤ token.end) = hlevel props in
    let within_prop : IsProp (token.end ≤ length page) = hlevel props in
    let bytes_prop : IsProp (p.bytes ≡ take (token.end - token.start) (drop token.start page)) = hlevel props in
    let rest_prop : IsProp (code p.rest ≡ code (state_of token.mode)) = hlevel props in
    λ i. record {
      start = start_prop x.start y.start i;
      order = order_prop x.order y.order i;
      within = within_prop x.within y.within i;
      bytes = bytes_prop x.bytes y.bytes i;
      rest = rest_prop x.rest y.rest i;
      kind = Kind-prop token.kind p.tokens x.kind y.kind i;
    }

All-kept-prop : (page : List ℕ) (tokens : List Token) (ps : List (ℕ × Piece)) → IsProp (AreKept page tokens ps)
unfolding AreKept
All-kept-prop page [] [] = hlevel props
All-kept-prop page [] (p ∷ ps) = hlevel props
All-kept-prop page (t ∷ tokens) [] = hlevel props
All-kept-prop page (t ∷ tokens) (p ∷ ps) =
    let one : IsProp (IsKept page t p.0 p.1) = Kept-prop page t p.0 p.1 in
    let rest : IsProp (AreKept page tokens ps) = All-kept-prop page tokens ps in
    hlevel props

pub tokens_of_page : (page : List ℕ) (tokens : List Token) → ∥ AreTokensOf page tokens ∥₁ → AreTokensOf page tokens
tokens_of_page page tokens h =
    let ps : List (ℕ × Piece) = placed (mark_len page) (runs (pieces page)) in
    from_kept page tokens ps (∥∥₁_elim h (All-kept-prop page tokens ps) (kept page tokens ps))
