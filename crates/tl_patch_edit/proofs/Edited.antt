-- A page that is read again.
use Rattle.std.proofs.Common.{◌≡◌, ℕ, zero, suc, ◌+◌, Bool, true, false, List, [], ◌∷◌, ◌++◌, length, drop, flat_map, Option, None, Some, slice_get, refl, ap, ap₂, sym, subst, ◌∙◌, if◌then◌else◌, ◌==◌, ◌&&◌, true≢false, arith}
use Rattle.std.proofs.lemmas.Bool.{and_parts, eqb-true}
use Rattle.tl_html_spec.specs.HtmlTokenizer.{html_tokens, without_mark}
use Rattle.tl_html_spec.specs.Pieces.{Piece, pieces, placed, runs, tokens_in}
use Rattle.tl_html_spec.proofs.Cutting.{tokens_are}
use Rattle.tl_html_tokens.specs.Kinds.{IsKind}
use Rattle.tl_html_tokens.specs.Tokens.{AreTokens, AreTokensOf, mark_len}
use Rattle.tl_html_tokens.specs.Whole.{AreWholeTags, IsWhole, bytes_at, is_tag_kind}
use Rattle.tl_html_tokens.specs.declared.stage.TokenKind.{TokenKind}
use Rattle.tl_html_tokens.specs.declared.token.Token.{Token}
use Rattle.tl_html_tokens.proofs.Alone.{tags_are_whole}
use Rattle.tl_patch_edit.specs.Asks.{IsWanted}
use Rattle.tl_patch_edit.specs.Found.{IsNeverRead, IsNeverSplicedOf, IsReadAs, IsSplicedPageOf, IsStartAt, IsStartOf, IsTagName, has_mark, mark_bytes}
use Rattle.tl_patch_edit.specs.Inner.Parts.{ArePieces, Part, Say, SayOtherwise, SaySame, part_bytes}
use Rattle.tl_patch_edit.specs.Sayings.{Saying, sayings}
use Rattle.tl_patch_edit.proofs.Edges.{none_before}
use Rattle.tl_patch_edit.proofs.Said.{pieces_give}
use Rattle.tl_patch_edit.proofs.Sayings.{runs_said, say_whole, tokens_are_said, tokens_said}
use Rattle.tl_patch_spec.specs.Patches.{Extent, Patch, Put, asked, asked_by_name, asked_of, extent_in, start_name, tokens_of_piece}
use Rattle.tl_patch_spec.specs.Splices.{Splice, with_splices}
use Rattle.tl_patch_spec.specs.Tail.{elements_up_to_tail}

pub read_is : (text : List ℕ) (wanted others : List Part) → SaySame wanted others → ArePieces others (runs (pieces text)) → (ss : List Saying) → Say wanted ss → sayings (pieces text) ≡ ss
read_is text wanted others s a ss h =
    sym (s.same ss (sayings (runs (pieces text))) h (pieces_give others (runs (pieces text)) a).say ∙ runs_said (pieces text))

pub read_not : (text : List ℕ) (wanted others : List Part) → SayOtherwise wanted others → ArePieces others (runs (pieces text)) → (ss : List Saying) → Say wanted ss → sayings (pieces text) ≡ ss → ⊥
read_not text wanted others o a ss h e =
    o.never ss h (subst (λ (us : List Saying). Say others us) (runs_said (pieces text) ∙ e) (pieces_give others (runs (pieces text)) a).say)

tokens_same : (text : List ℕ) (ps : List Piece) → sayings (pieces text) ≡ sayings ps → html_tokens text ≡ tokens_in ps
tokens_same text ps e =
    sym (tokens_are text) ∙ tokens_are_said (pieces text) ∙ ap (λ (ss : List Saying). flat_map tokens_said ss) e ∙ sym (tokens_are_said ps)

-- byte order marks

body_is : (b : Bool) (text body : List ℕ) → text ≡ mark_bytes b ++ body → has_mark text ≡ b → without_mark text ≡ body
body_is true text body e h = ap without_mark e
body_is false text body e h = ap (λ (v : Bool). if v then drop 3 text else text) h ∙ e

pub read_as : (b : Bool) (page text : List ℕ) (wanted : List Part) → b ≡ has_mark page → text ≡ mark_bytes b ++ part_bytes wanted → has_mark text ≡ b →
    ((ss : List Saying) → Say wanted ss → sayings (pieces text) ≡ ss) → IsReadAs page wanted text
read_as b page text wanted p e h r = record {
  mark = ap (λ (v : Bool). if v then 3 else 0) (h ∙ p);
  bytes = body_is b text (part_bytes wanted) e h;
  said = r;
}

front_byte : (a b : ℕ) (xs ys : List ℕ) → (b == a) ≡ true → xs ≡ ys → a ∷ xs ≡ b ∷ ys
front_byte a b xs ys e h = ap₂ (λ (x : ℕ) (zs : List ℕ). x ∷ zs) (sym (eqb-true b a e)) h

mark_front : (text : List ℕ) → has_mark text ≡ true → text ≡ mark_bytes true ++ drop 3 text
mark_front [] h = absurd (true≢false (sym h))
mark_front (a ∷ []) h = absurd (true≢false (sym (and_parts (0xEF == a) false h).1))
mark_front (a ∷ b ∷ []) h = absurd (true≢false (sym (and_parts (0xBB == b) false (and_parts (0xEF == a) ((0xBB == b) && false) h).1).1))
mark_front (a ∷ b ∷ c ∷ text) h =
    let p = and_parts (0xEF == a) _ h in
    let q = and_parts (0xBB == b) _ p.1 in
    let r = and_parts (0xBF == c) _ q.1 in
    front_byte a 0xEF (b ∷ c ∷ text) (0xBB ∷ 0xBF ∷ text) p.0 (front_byte b 0xBB (c ∷ text) (0xBF ∷ text) q.0 (front_byte c 0xBF text text r.0 refl))

text_is : (b : Bool) (text body : List ℕ) → has_mark text ≡ b → without_mark text ≡ body → text ≡ mark_bytes b ++ body
text_is true text body h e =
    mark_front text h ∙ ap (λ (xs : List ℕ). mark_bytes true ++ xs) (sym (ap (λ (v : Bool). if v then drop 3 text else text) h) ∙ e)
text_is false text body h e = sym (ap (λ (v : Bool). if v then drop 3 text else text) h) ∙ e

abbrev len_of : Bool → ℕ
len_of v = if v then 3 else 0

three_if : (v w : Bool) → len_of v ≡ len_of w → v ≡ w
three_if true true e = refl
three_if false false e = refl
three_if true false e = absurd (omega (arith, e))
three_if false true e = absurd (omega (arith, e))

mark_is : (text page : List ℕ) → mark_len text ≡ mark_len page → has_mark text ≡ has_mark page
mark_is text page e = three_if (has_mark text) (has_mark page) e

-- a text with the mark of a page and with these bytes is the one that was written

one_text : (b : Bool) (page text other : List ℕ) (wanted : List Part) → b ≡ has_mark page → text ≡ mark_bytes b ++ part_bytes wanted → mark_len other ≡ mark_len page →
    without_mark other ≡ part_bytes wanted → other ≡ text
one_text b page text other wanted p w m e = text_is b other (part_bytes wanted) (mark_is other page m ∙ sym p) e ∙ sym w

pub never_marked : (b : Bool) (page text : List ℕ) (wanted : List Part) → b ≡ has_mark page → text ≡ mark_bytes b ++ part_bytes wanted → (has_mark text ≡ b → ⊥) → IsNeverRead page wanted
never_marked b page text wanted p w n = record {
  never = λ other m e ss h s.
      n (subst (λ (xs : List ℕ). has_mark xs ≡ b) (one_text b page text other wanted p w m e) (mark_is other page m ∙ sym p));
}

pub never_read : (b : Bool) (page text : List ℕ) (wanted : List Part) → b ≡ has_mark page → text ≡ mark_bytes b ++ part_bytes wanted →
    ((ss : List Saying) → Say wanted ss → sayings (pieces text) ≡ ss → ⊥) → IsNeverRead page wanted
never_read b page text wanted p w n = record {
  never = λ other m e ss h s. n ss h (subst (λ (xs : List ℕ). sayings (pieces xs) ≡ ss) (one_text b page text other wanted p w m e) s);
}

pub never_spliced : (asks : List (Splice Put)) (parts wanted : List Part) (page : List ℕ) → IsWanted asks parts wanted → IsNeverRead page wanted → IsNeverSplicedOf asks parts page
never_spliced asks parts wanted page w r = λ ps h t.
    let s = w ps h t None none_before in
    record {
      splices = s.splices;
      ordered = s.ordered;
      asked = s.asked;
      whole = say_whole wanted (sayings (with_splices ps s.splices)) (s.gives).say;
      never = λ text m e k. r.never text m (e ∙ (s.gives).bytes) (sayings (with_splices ps s.splices)) (s.gives).say k;
    }

pub spliced : (asks : List (Splice Put)) (parts wanted : List Part) (page text : List ℕ) → IsWanted asks parts wanted → IsReadAs page wanted text → IsSplicedPageOf asks parts page text
spliced asks parts wanted page text w r = λ ps h t.
    let s = w ps h t None none_before in
    record {
      splices = s.splices;
      ordered = s.ordered;
      asked = s.asked;
      mark = r.mark;
      bytes = r.bytes ∙ sym (s.gives).bytes;
      tokens = tokens_same text (with_splices ps s.splices) (r.said (sayings (with_splices ps s.splices)) (s.gives).say);
    }

-- the piece of a token

pub record Meant (page : List ℕ) (t : Token) (place number : ℕ) (ps : List Piece) : Type 0 where
  pub piece : Piece
  pub begins : slice_get (placed place ps) number ≡ Some (t.start, piece)
  pub stands : slice_get ps number ≡ Some piece
  pub whole : is_tag_kind t.kind ≡ true → IsWhole t.mode (bytes_at page t) piece.tokens
  pub kind : IsKind t.kind piece.tokens

meant : (page : List ℕ) (ts : List Token) (place : ℕ) (ps : List Piece) (number : ℕ) (t : Token) → AreTokens page ts (placed place ps) → AreWholeTags page ts (placed place ps) →
    slice_get ts number ≡ Some t → Meant page t place number ps
meant page [] place ps number t h w e = cc
meant page (u ∷ ts) place [] number t h w e = absurd h
meant page (u ∷ ts) place (p ∷ ps) zero t h w e =
    let same : u ≡ t = cc in
    record {
      piece = p;
      begins = ap (λ n. Some (n, p)) (sym (h.0).start ∙ ap (λ (x : Token). x.start) same);
      stands = refl;
      whole = subst (λ (x : Token). is_tag_kind x.kind ≡ true → IsWhole x.mode (bytes_at page x) p.tokens) same w.0;
      kind = subst (λ (x : Token). IsKind x.kind p.tokens) same (h.0).kind;
    }
meant page (u ∷ ts) place (p ∷ ps) (suc number) t h w e =
    let r = meant page ts (place + length p.bytes) ps number t h.1 w.1 e in
    record { piece = r.piece; begins = r.begins; stands = r.stands; whole = r.whole; kind = r.kind }

pub token_meant : (page : List ℕ) (ts : List Token) (number : ℕ) (t : Token) → AreTokensOf page ts → slice_get ts number ≡ Some t → Meant page t (mark_len page) number (runs (pieces page))
token_meant page ts number t h e = meant page ts (mark_len page) (runs (pieces page)) number t h (tags_are_whole page ts h) e

pub start_of : (page : List ℕ) (ts : List Token) (place number : ℕ) (t : Token) → AreTokensOf page ts → IsStartAt ts place number t → IsStartOf page number t
start_of page ts place number t h s =
    let m : Meant page t (mark_len page) number (runs (pieces page)) = token_meant page ts number t h s.is in
    record {
      piece = m.piece;
      begins = m.begins;
      stands = m.stands;
      whole = m.whole (ap is_tag_kind s.kind);
      start = subst (λ (k : TokenKind). IsKind k m.piece.tokens) s.kind m.kind;
    }

pub asked_same : (patch : Patch) (page : List ℕ) (number : ℕ) (t : Token) (extent : Extent) (name : List ℕ) → IsStartOf page number t →
    extent ≡ extent_in number (elements_up_to_tail (runs (pieces page))) → IsTagName (bytes_at page t) name →
    asked_of (runs (pieces page)) number patch ≡ asked patch number extent name
asked_same patch page number t extent name s x n =
    let ps : List Piece = runs (pieces page) in
    let named : start_name (s.piece).tokens ≡ Some name = n.named t.mode (s.piece).tokens s.whole s.start in
    ap (λ (o : Option Piece). asked_by_name patch number (extent_in number (elements_up_to_tail ps)) (start_name (tokens_of_piece o))) s.stands
    ∙ ap₂ (λ (e : Extent) (o : Option (List ℕ)). asked_by_name patch number e o) (sym x) named

pub asked_is : (patch : Patch) (page : List ℕ) (number : ℕ) (t : Token) (extent : Extent) (name : List ℕ) (asks : List (Splice Put)) → IsStartOf page number t →
    extent ≡ extent_in number (elements_up_to_tail (runs (pieces page))) → IsTagName (bytes_at page t) name → asked patch number extent name ≡ Some asks →
    asked_of (runs (pieces page)) number patch ≡ Some asks
asked_is patch page number t extent name asks s x n a = asked_same patch page number t extent name s x n ∙ a
