-- Where no start tag begins.
use Rattle.std.proofs.Common.{◌≡◌, ◌≤◌, ◌<◌, ℕ, zero, suc, ◌+◌, List, [], ◌∷◌, length, Some, slice_get, refl, ap, sym, subst, arith, inl, inr, true≢false}
use Rattle.std.specs.List.{All}
use Rattle.std.proofs.lemmas.Bool.{cases_Bool, ltb-false, ltb-true}
use Rattle.std.proofs.lemmas.List.Elements.{All-contains}
use lib.Dec.{ltb}
use Rattle.tl_html_spec.specs.HtmlTokenizer.{Character, CommentToken, DoctypeToken, EndTag, HtmlToken, StartTag}
use Rattle.tl_html_spec.specs.Pieces.{Piece, pieces, placed, runs}
use Rattle.tl_html_tokens.specs.Kinds.{IsKind, IsStartTag}
use Rattle.tl_html_tokens.specs.Tokens.{AreTokens, AreTokensOf, IsToken, mark_len}
use Rattle.tl_html_tokens.specs.Whole.{IsWhole, bytes_at}
use Rattle.tl_html_tokens.specs.declared.mode.Mode.{Mode}
use Rattle.tl_html_tokens.specs.declared.stage.TokenKind.{TokenKind}
use Rattle.tl_html_tokens.specs.declared.stage.TokenKind.TheVariants as kind
use Rattle.tl_html_tokens.specs.declared.token.Token.{Token}
use Rattle.tl_patch_edit.specs.Inner.Causes.{IsMissing, NoStartFrom, ReachesFrom}
use Rattle.tl_patch_edit.specs.Errors.{LacksStartTag, NoneBeginsAt}
use Rattle.tl_patch_edit.specs.Found.{IsStartAt, IsStartOf}
use Rattle.tl_patch_edit.proofs.Edited.{start_of}

-- the token of a piece

pub record TokenAt (page : List ℕ) (ts : List Token) (number place : ℕ) (p : Piece) : Type 0 where
  pub token : Token
  pub is : slice_get ts number ≡ Some token
  pub fits : IsToken page token place p

pub token_at : (page : List ℕ) (ts : List Token) (qs : List (ℕ × Piece)) (number place : ℕ) (p : Piece) → AreTokens page ts qs → slice_get qs number ≡ Some (place, p) → TokenAt page ts number place p
token_at page [] [] number place p h e = cc
token_at page [] (q ∷ qs) number place p h e = absurd h
token_at page (t ∷ ts) [] number place p h e = absurd h
token_at page (t ∷ ts) (q ∷ qs) zero place p h e =
    let same : q ≡ (place, p) = cc in
    record { token = t; is = refl; fits = subst (λ (x : ℕ × Piece). IsToken page t x.0 x.1) same h.0 }
token_at page (t ∷ ts) (q ∷ qs) (suc number) place p h e =
    let r = token_at page ts qs number place p h.1 e in
    record { token = r.token; is = r.is; fits = r.fits }

pub kind_is : (k : TokenKind) (ts : List HtmlToken) → IsKind k ts → IsStartTag ts → k ≡ kind.StartTag
kind_is kind.StartTag ts h s = refl
kind_is kind.Text (StartTag n a c ∷ []) h s = absurd (true≢false (sym h))
kind_is kind.EndTag (StartTag n a c ∷ []) h s = absurd h
kind_is kind.Comment (StartTag n a c ∷ []) h s = absurd h
kind_is kind.Doctype (StartTag n a c ∷ []) h s = absurd h
kind_is kind.Nothing (StartTag n a c ∷ []) h s = cc
kind_is k [] h s = absurd s
kind_is k (StartTag n a c ∷ t ∷ ts) h s = absurd s
kind_is k (EndTag n ∷ ts) h s = absurd s
kind_is k (Character b ∷ ts) h s = absurd s
kind_is k (CommentToken b ∷ ts) h s = absurd s
kind_is k (DoctypeToken ∷ ts) h s = absurd s

-- pieces stand side by side

no_earlier : (ps : List Piece) (place n b : ℕ) (y : Piece) → slice_get (placed place ps) n ≡ Some (b, y) → place ≤ b
no_earlier [] place n b y e = cc
no_earlier (p ∷ ps) place zero b y e =
    let s : (place, p) ≡ (b, y) = cc in
    let same : place ≡ b = ap (λ (x : ℕ × Piece). x.0) s in
    let here : place ≤ place = omega arith in
    subst (λ n. place ≤ n) same here
no_earlier (p ∷ ps) place (suc n) b y e =
    let l : place + length p.bytes ≤ b = no_earlier ps (place + length p.bytes) n b y e in
    omega arith

pub ends_before : (ps : List Piece) (place m n a b : ℕ) (x y : Piece) → m < n → slice_get (placed place ps) m ≡ Some (a, x) → slice_get (placed place ps) n ≡ Some (b, y) → a + length x.bytes ≤ b
ends_before [] place m n a b x y l e f = cc
ends_before (p ∷ ps) place zero zero a b x y l e f = absurd (omega arith)
ends_before (p ∷ ps) place zero (suc n) a b x y l e f =
    let s : (place, p) ≡ (a, x) = cc in
    subst (λ (z : ℕ × Piece). z.0 + length (z.1).bytes ≤ b) s (no_earlier ps (place + length p.bytes) n b y f)
ends_before (p ∷ ps) place (suc m) zero a b x y l e f = absurd (omega arith)
ends_before (p ∷ ps) place (suc m) (suc n) a b x y l e f =
    let k : m < n = omega arith in
    ends_before ps (place + length p.bytes) m n a b x y k e f

not_empty : (m : Mode) (bytes : List ℕ) (ts : List HtmlToken) → IsWhole m bytes ts → 0 < length bytes
not_empty m [] ts w = cc
not_empty m (b ∷ bytes) ts w = omega arith

-- one after which the start tags go on that were found

is_none : (page : List ℕ) (tokens : List Token) (front : List ℕ) (place from : ℕ) → AreTokensOf page tokens → ReachesFrom tokens front from → NoStartFrom from tokens place →
    All (λ before. before ≤ place) front → NoneBeginsAt page place
is_none page tokens front place from t r none le = λ number p e s.
    let k = token_at page tokens (placed (mark_len page) (runs (pieces page))) number place p t e in
    let start : k.token.start ≡ place = (k.fits).start in
    let is_start : k.token.kind ≡ kind.StartTag = kind_is k.token.kind p.tokens (k.fits).kind s in
    let here : IsStartAt tokens place number k.token = record { is = k.is; start = start; kind = is_start } in
    let o : IsStartOf page number k.token = start_of page tokens place number k.token t here in
    elim (cases_Bool (ltb number from)) [
      | inr y ↦ none number k.token (ltb-false number from y) k.is start is_start
      | inl y ↦
          let l : number < from = ltb-true number from y in
          elim r [
            | inl z ↦ absurd (omega arith)
            | inr w ↦
                let q : IsStartOf page from w.1 = start_of page tokens w.0 from w.1 t w.3 in
                let before : w.0 ≤ place = All-contains (λ before. before ≤ place) front w.0 le w.2 in
                let at : (w.1).start ≡ w.0 = (w.3).start in
                let far : k.token.start + length (o.piece).bytes ≤ (w.1).start = ends_before (runs (pieces page)) (mark_len page) number from k.token.start (w.1).start o.piece q.piece l o.begins q.begins in
                let same : p ≡ o.piece = (let a : slice_get (placed (mark_len page) (runs (pieces page))) number ≡ Some (place, p) = e in let b = o.begins in let c : (place, p) ≡ (k.token.start, o.piece) = cc in ap (λ (x : ℕ × Piece). x.1) c) in
                let some : 0 < length (bytes_at page k.token) = not_empty k.token.mode (bytes_at page k.token) (o.piece).tokens o.whole in
                let bytes : length p.bytes ≡ length (bytes_at page k.token) = ap (λ (xs : List ℕ). length xs) (k.fits).bytes in
                let long : length p.bytes ≡ length (o.piece).bytes = ap (λ (x : Piece). length x.bytes) same in
                absurd (omega arith)
          ]
    ]

pub lacks : (page : List ℕ) (tokens : List Token) (places : List ℕ) (place : ℕ) → AreTokensOf page tokens → IsMissing tokens places place → LacksStartTag page places place
lacks page tokens places place t m = record {
  front = m.front;
  back = m.back;
  is = m.is;
  none = is_none page tokens m.front place m.from t m.reaches m.none;
}
