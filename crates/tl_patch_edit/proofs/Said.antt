-- What parts say goes by their kinds, their modes and their bytes.
use Rattle.std.proofs.Common.{◌≡◌, ℕ, ◌+◌, List, [], ◌∷◌, ◌++◌, length, map, refl, ap, ap₂, sym, subst, subst₂, ◌∙◌, append_assoc}
use Rattle.std.proofs.lemmas.Grind.{flat_map-append}
use Rattle.tl_html_spec.specs.HtmlTokenizer.{HtmlToken}
use Rattle.tl_html_spec.specs.Pieces.{Piece, bytes_of, piece, pieces, placed, runs}
use Rattle.tl_html_tokens.specs.Modes.{state_of}
use Rattle.tl_html_tokens.specs.Said.{AreSaid}
use Rattle.tl_html_tokens.specs.Tokens.{AreTokens, AreTokensOf, IsToken, mark_len}
use Rattle.tl_html_tokens.specs.Whole.{AreWholeTags}
use Rattle.tl_html_tokens.specs.declared.mode.Mode.{Mode}
use Rattle.tl_html_tokens.specs.declared.stage.TokenKind.{TokenKind}
use Rattle.tl_html_tokens.specs.declared.stage.TokenKind.TheVariants as kind
use Rattle.tl_html_tokens.specs.declared.token.Token.{Token}
use Rattle.tl_html_tokens.proofs.Alone.{tags_are_whole}
use Rattle.tl_html_tokens.proofs.Telling.{tokens_said}
use Rattle.tl_patch.proofs.Says as page
use Rattle.tl_patch.proofs.KeyChanges.{whole_same}
use Rattle.tl_patch_edit.specs.Inner.Parts.{ArePieces, Give, IsPieceOf, Part, Say, Says, Tells, TellsTag, view_at}
use Rattle.tl_patch_edit.specs.Sayings.{Saying, Tag, said_by, sayings}
use Rattle.tl_patch_edit.proofs.Lists.{bytes_append}
use Rattle.tl_patch_edit.proofs.Sayings.{tells_of}

of_page : (k : TokenKind) (m : Mode) (b : List ℕ) (ts : List HtmlToken) → page.Says k m b ts → Says k m b ts
of_page kind.Text m b ts h = h
of_page kind.Comment m b ts h = h
of_page kind.Doctype m b ts h = h
of_page kind.Nothing m b ts h = h
of_page kind.StartTag m b ts h = h
of_page kind.EndTag m b ts h = h

tag_same : (m : Mode) (b : List ℕ) (ss us : List Saying) → TellsTag m b ss → TellsTag m b us → ss ≡ us
tag_same m b ss us h g =
    h.1 ∙ ap (λ (ts : List HtmlToken). Tag (piece (state_of m) b ts) ∷ []) (whole_same m b h.0 g.0 h.2 g.2) ∙ sym g.1

pub same_tells : (k : TokenKind) (m : Mode) (b : List ℕ) (ss us : List Saying) → Tells k m b ss → Tells k m b us → ss ≡ us
same_tells kind.Text m b ss us h g = h ∙ sym g
same_tells kind.Comment m b ss us h g = h ∙ sym g
same_tells kind.Doctype m b ss us h g = h ∙ sym g
same_tells kind.Nothing m b ss us h g = h ∙ sym g
same_tells kind.StartTag m b ss us h g = tag_same m b ss us h g
same_tells kind.EndTag m b ss us h g = tag_same m b ss us h g

-- the tokens of a page

piece_is : (text : List ℕ) (t : Token) (place : ℕ) (p : Piece) → IsToken text t place p → page.Says t.kind t.mode p.bytes p.tokens → IsPieceOf (view_at text t) p
piece_is text t place p h s = record {
  rest = h.rest;
  bytes = h.bytes;
  kind = h.kind;
  says = subst (λ b. Says t.kind t.mode b p.tokens) h.bytes (of_page t.kind t.mode p.bytes p.tokens s);
}

pieces_are : (text : List ℕ) (ts : List Token) (place : ℕ) (ps : List Piece) → AreTokens text ts (placed place ps) → AreWholeTags text ts (placed place ps) → AreSaid ts ps →
    ArePieces (map (view_at text) ts) ps
pieces_are text [] place [] h w s = tt
pieces_are text [] place (p ∷ ps) h w s = absurd h
pieces_are text (t ∷ ts) place [] h w s = absurd h
pieces_are text (t ∷ ts) place (p ∷ ps) h w s = (
  piece_is text t place p h.0 (page.says_of text t place p h.0 w.0 s.0),
  pieces_are text ts (place + length p.bytes) ps h.1 w.1 s.1,
)

pub page_pieces : (text : List ℕ) (ts : List Token) → AreTokensOf text ts → ArePieces (map (view_at text) ts) (runs (pieces text))
page_pieces text ts h = pieces_are text ts (mark_len text) (runs (pieces text)) h (tags_are_whole text ts h) (tokens_said text ts h)

-- parts side by side

pub say_both : (xs ys : List Part) (ts us : List Saying) → Say xs ts → Say ys us → Say (xs ++ ys) (ts ++ us)
say_both [] ys ts us h k = subst (λ vs. Say ys (vs ++ us)) (sym h) k
say_both (x ∷ xs) ys ts us h k =
    (h.0, h.1 ++ us, ap (λ vs. vs ++ us) h.2 ∙ append_assoc h.0 h.1 us, h.3, say_both xs ys h.1 us h.4 k)

pub give_both : (xs ys : List Part) (b c : List ℕ) (ts us : List Saying) → Give xs b ts → Give ys c us → Give (xs ++ ys) (b ++ c) (ts ++ us)
give_both xs ys b c ts us h k = record {
  bytes = ap₂ (λ u v. u ++ v) h.bytes k.bytes ∙ sym (bytes_append xs ys);
  say = say_both xs ys ts us h.say k.say;
}

pub pieces_give : (xs : List Part) (ps : List Piece) → ArePieces xs ps → Give xs (bytes_of ps) (sayings ps)
pieces_give [] [] h = record { bytes = refl; say = refl }
pieces_give [] (p ∷ ps) h = absurd h
pieces_give (x ∷ xs) [] h = absurd h
pieces_give (x ∷ xs) (p ∷ ps) h =
    let more = pieces_give xs ps h.1 in
    record { bytes = ap₂ (λ u v. u ++ v) (h.0).bytes more.bytes; say = (said_by p, sayings ps, refl, tells_of x p h.0, more.say) }

abbrev pub GivePieces : List Part → List Piece → Type 0
GivePieces xs ps = Give xs (bytes_of ps) (sayings ps)

pub pieces_both : (xs ys : List Part) (ps qs : List Piece) → GivePieces xs ps → GivePieces ys qs → GivePieces (xs ++ ys) (ps ++ qs)
pieces_both xs ys ps qs h k =
    subst₂ (λ (b : List ℕ) (ts : List Saying). Give (xs ++ ys) b ts)
    (sym (flat_map-append (λ (p : Piece). p.bytes) ps qs)) (sym (flat_map-append said_by ps qs))
    (give_both xs ys (bytes_of ps) (bytes_of qs) (sayings ps) (sayings qs) h k)

-- what some of them say, and the others

pub record Parted (xs ys : List Part) (ts : List Saying) : Type 0 where
  pub first : List Saying
  pub second : List Saying
  pub is : ts ≡ first ++ second
  pub say_first : Say xs first
  pub say_second : Say ys second

pub say_parted : (xs ys : List Part) (ts : List Saying) → Say (xs ++ ys) ts → Parted xs ys ts
say_parted [] ys ts h = record { first = []; second = ts; is = refl; say_first = refl; say_second = h }
say_parted (x ∷ xs) ys ts h =
    let r = say_parted xs ys h.1 h.4 in
    record {
      first = h.0 ++ r.first;
      second = r.second;
      is = h.2 ∙ ap (λ vs. h.0 ++ vs) r.is ∙ sym (append_assoc h.0 r.first r.second);
      say_first = (h.0, r.first, refl, h.3, r.say_first);
      say_second = r.say_second;
    }
