-- Comments that go.
use Rattle.std.proofs.Common.{◌≡◌, ◌≤◌, ◌<◌, ℕ, suc, ◌+◌, List, [], ◌∷◌, ◌++◌, length, get_or, take, drop, map, Some, slice_get, refl, ap, ap₂, sym, subst, ◌∙◌, arith, append-nil, append_assoc, inl, inr, true≢false}
use Rattle.std.proofs.lemmas.Bool.{cases_Bool, ltb-false, ltb-true}
use Rattle.std.proofs.lemmas.List.{take_all, take_more}
use Rattle.std.proofs.lemmas.Option.{same_Some, slice_get-get_or, slice_get_within}
use Rattle.std.specs.List.{All}
use lib.Dec.{ltb}
use Rattle.tl_html_spec.specs.HtmlTokenizer.{Character, CommentToken, DoctypeToken, EndTag, HtmlToken, StartTag, without_mark}
use Rattle.tl_html_spec.specs.Pieces.{Piece, pieces, runs}
use Rattle.tl_html_tokens.specs.Kinds.{IsComment, IsKind}
use Rattle.tl_html_tokens.specs.Tokens.{AreTokensOf, mark_len}
use Rattle.tl_html_tokens.specs.declared.stage.TokenKind.{TokenKind}
use Rattle.tl_html_tokens.specs.declared.stage.TokenKind.TheVariants as kind
use Rattle.tl_html_tokens.specs.declared.token.Token.{Token}
use Rattle.tl_patch_spec.specs.Patches.{Put}
use Rattle.tl_patch_spec.specs.Splices.{Splice}
use Rattle.tl_patch_edit.specs.Asks.{ask_view, asks_view}
use Rattle.tl_patch_edit.specs.Comments.{AreComments, AreCommentsGone, AreCommentsRefused, BeginsComment, CannotBeWithout, LacksComment, gone_at}
use Rattle.tl_patch_edit.specs.Errors.{pieces_in, placed_pieces}
use Rattle.tl_patch_edit.specs.Found.{IsNeverSpliced, IsNeverSplicedOf, IsSplicedPage, IsSplicedPageOf}
use Rattle.tl_patch_edit.specs.Inner.CommentAsks.{AreAsksRefused, AreCommentAsks, IsCommentAt, LacksCommentIn, NoCommentFrom, gone_ask, past_asks}
use Rattle.tl_patch_edit.specs.Inner.Parts.{ArePieces, Part}
use Rattle.tl_patch_edit.specs.Seams.{AreSeparated}
use Rattle.tl_patch_edit.specs.declared.ask.PlacedAsk.{PlacedAsk}
use Rattle.tl_patch_edit.specs.declared.ask.Start.{Start}
use Rattle.tl_patch_edit.specs.declared.comments.CommentError.{CommentError}
use Rattle.tl_patch_edit.specs.declared.comments.CommentError.TheVariants as error
use Rattle.tl_patch_edit.specs.Inner.Causes.{IsPageError}
use Rattle.tl_patch_edit.specs.declared.error.EditError.{EditError}
use Rattle.tl_patch_edit.specs.declared.error.EditError.TheVariants as edit
use Rattle.tl_patch_edit.proofs.Apart.{begins_later}
use Rattle.tl_patch_edit.proofs.Edited.{Meant, token_meant}
use Rattle.tl_patch_edit.proofs.Missing.{token_at}
use Rattle.tl_patch_edit.proofs.Refusals.{parted}
use Rattle.tl_patch_edit.proofs.Texts.{page_texts}

pub comment_is : (tokens : List Token) (place n : ℕ) (d : Token) → n < length tokens → (get_or tokens n d).start ≡ place → (get_or tokens n d).kind ≡ kind.Comment → IsCommentAt tokens place n (get_or tokens n d)
comment_is tokens place n d l s k = record { is = slice_get-get_or tokens n d l; start = s; kind = k }

pub ask_gone : (start : Start) (until : ℕ) → until ≡ suc start.number → ask_view (gone_ask start until).ask ≡ gone_at start.number
ask_gone start until u = rw u refl

-- those so far go on with more of them, from a number on

pub record AreAsksSoFar (tokens : List Token) (places : List ℕ) (at from : ℕ) (asks : List PlacedAsk) : Type 0 where
  pub past : from ≡ past_asks 0 asks
  pub more : (others : List ℕ) (rest : List PlacedAsk) → AreCommentAsks from tokens others rest → AreCommentAsks 0 tokens (take at places ++ others) (asks ++ rest)

pub asks_begin : (tokens : List Token) (places : List ℕ) (asks : List PlacedAsk) → asks ≡ [] → AreAsksSoFar tokens places 0 0 asks
asks_begin tokens places asks e = record {
  past = ap (past_asks 0) (sym e);
  more = λ others rest r. subst (λ (xs : List PlacedAsk). AreCommentAsks 0 tokens others (xs ++ rest)) (sym e) r;
}

past_last : (from : ℕ) (asks : List PlacedAsk) (a : PlacedAsk) → past_asks from (asks ++ a ∷ []) ≡ suc a.start.number
past_last from [] a = refl
past_last from (b ∷ asks) a = past_last (suc b.start.number) asks a

pub asks_more : (tokens : List Token) (places : List ℕ) (at from until d : ℕ) (a : PlacedAsk) (old now : List PlacedAsk) → at < length places → from ≤ a.start.number →
    IsCommentAt tokens (get_or places at d) a.start.number a.start.token → ask_view a.ask ≡ gone_at a.start.number → until ≡ suc a.start.number → now ≡ old ++ a ∷ [] → AreAsksSoFar tokens places at from old →
    AreAsksSoFar tokens places (at + 1) until now
asks_more tokens places at from until d a old now l o s g u e h = record {
  past = u ∙ sym (past_last 0 old a) ∙ ap (past_asks 0) (sym e);
  more = λ others rest r.
      let place : ℕ = get_or places at d in
      let next : AreCommentAsks (suc a.start.number) tokens others rest = subst (λ n. AreCommentAsks n tokens others rest) u r in
      let all : AreCommentAsks 0 tokens (take at places ++ place ∷ others) (old ++ a ∷ rest) = h.more (place ∷ others) (a ∷ rest) (o, s, g, next) in
      let before : take at places ++ place ∷ others ≡ take (at + 1) places ++ others = sym (append_assoc (take at places) (place ∷ []) others) ∙ ap (λ (ns : List ℕ). ns ++ others) (sym (take_more places at d l)) in
      let same : old ++ a ∷ rest ≡ now ++ rest = sym (append_assoc old (a ∷ []) rest) ∙ ap (λ (xs : List PlacedAsk). xs ++ rest) (sym e) in
      subst (λ (xs : List PlacedAsk). AreCommentAsks 0 tokens (take (at + 1) places ++ others) xs) same (subst (λ (ns : List ℕ). AreCommentAsks 0 tokens ns (old ++ a ∷ rest)) before all);
}

asks_so_far : (tokens : List Token) (places : List ℕ) (at from : ℕ) (asks : List PlacedAsk) → AreAsksSoFar tokens places at from asks → AreCommentAsks 0 tokens (take at places) asks
asks_so_far tokens places at from asks h =
    subst (λ (ns : List ℕ). AreCommentAsks 0 tokens ns asks) (append-nil (take at places)) (subst (λ (xs : List PlacedAsk). AreCommentAsks 0 tokens (take at places ++ []) xs) (append-nil asks) (h.more [] [] tt))

pub asks_end : (tokens : List Token) (places : List ℕ) (at from : ℕ) (asks : List PlacedAsk) → length places ≤ at → AreAsksSoFar tokens places at from asks → AreCommentAsks 0 tokens places asks
asks_end tokens places at from asks l h = subst (λ (ns : List ℕ). AreCommentAsks 0 tokens ns asks) (take_all at places l) (asks_so_far tokens places at from asks h)

pub asks_lack : (tokens : List Token) (places : List ℕ) (at from d : ℕ) (asks : List PlacedAsk) → at < length places → NoCommentFrom from tokens (get_or places at d) → AreAsksSoFar tokens places at from asks →
    LacksCommentIn tokens places (get_or places at d)
asks_lack tokens places at from d asks l none h = record {
  front = take at places;
  back = drop (at + 1) places;
  is = parted places at d l;
  asks = asks;
  before = asks_so_far tokens places at from asks h;
  none = subst (λ n. NoCommentFrom n tokens (get_or places at d)) h.past none;
}

-- no comment between two numbers begins at a place

abbrev pub NoCommentBetween : ℕ → ℕ → List Token → ℕ → Type 0
NoCommentBetween from until tokens place = (n : ℕ) (t : Token) → from ≤ n → n < until → slice_get tokens n ≡ Some t → t.start ≡ place → t.kind ≡ kind.Comment → ⊥

pub no_comment_yet : (tokens : List Token) (from place : ℕ) → NoCommentBetween from from tokens place
no_comment_yet tokens from place = λ n t o k e s q. absurd (omega arith)

pub no_comment_more : (tokens : List Token) (from at place : ℕ) (d : Token) → at < length tokens → ((get_or tokens at d).start ≡ place → (get_or tokens at d).kind ≡ kind.Comment → ⊥) → NoCommentBetween from at tokens place →
    NoCommentBetween from (at + 1) tokens place
no_comment_more tokens from at place d l f h = λ n t o k e s q. elim (cases_Bool (ltb n at)) [
  | inl y ↦ h n t o (ltb-true n at y) e s q
  | inr y ↦
      let m : at ≤ n = ltb-false n at y in
      let same : n ≡ at = omega arith in
      let a : slice_get tokens at ≡ Some (get_or tokens at d) = slice_get-get_or tokens at d l in
      let b : slice_get tokens at ≡ Some t = ap (slice_get tokens) (sym same) ∙ e in
      let is : get_or tokens at d ≡ t = cc in
      f (ap (λ (x : Token). x.start) is ∙ s) (ap (λ (x : Token). x.kind) is ∙ q)
]

pub no_comment_all : (tokens : List Token) (from at place : ℕ) → length tokens ≤ at → NoCommentBetween from at tokens place → NoCommentFrom from tokens place
no_comment_all tokens from at place l h = λ n t o e s q. h n t o (let k : n < length tokens = slice_get_within tokens n t e in omega arith) e s q

number_of : PlacedAsk → ℕ
number_of a = a.start.number

comment_begins : (page : List ℕ) (tokens : List Token) (place number : ℕ) (t : Token) → AreTokensOf page tokens → IsCommentAt tokens place number t → BeginsComment (placed_pieces page) place number
comment_begins page tokens place number t h c =
    let m : Meant page t (mark_len page) number (runs (pieces page)) = token_meant page tokens number t h c.is in
    record {
      piece = m.piece;
      begins = m.begins ∙ ap (λ n. Some (n, m.piece)) c.start;
      comment = subst (λ (k : TokenKind). IsKind k m.piece.tokens) c.kind m.kind;
    }

are_comments : (page : List ℕ) (tokens : List Token) (places : List ℕ) (from : ℕ) (asks : List PlacedAsk) → AreTokensOf page tokens → AreCommentAsks from tokens places asks →
    AreComments from (placed_pieces page) places (map number_of asks)
unfolding number_of
are_comments page tokens [] from [] t h = tt
are_comments page tokens [] from (a ∷ asks) t h = absurd h
are_comments page tokens (place ∷ places) from [] t h = absurd h
are_comments page tokens (place ∷ places) from (a ∷ asks) t h =
    (h.0, comment_begins page tokens place a.start.number a.start.token t h.1, are_comments page tokens places (suc a.start.number) asks t h.3)

asks_are : (tokens : List Token) (places : List ℕ) (from : ℕ) (asks : List PlacedAsk) → AreCommentAsks from tokens places asks → asks_view asks ≡ map gone_at (map number_of asks)
unfolding number_of
asks_are tokens [] from [] h = refl
asks_are tokens [] from (a ∷ asks) h = absurd h
asks_are tokens (place ∷ places) from [] h = absurd h
asks_are tokens (place ∷ places) from (a ∷ asks) h = ap₂ (λ (x : Splice Put) (xs : List (Splice Put)). x ∷ xs) h.2 (asks_are tokens places (suc a.start.number) asks h.3)

pub comments_gone : (page text : List ℕ) (tokens : List Token) (places : List ℕ) (asks : List PlacedAsk) (parts : List Part) → AreTokensOf page tokens → AreCommentAsks 0 tokens places asks → ArePieces parts (pieces_in page) →
    IsSplicedPageOf (asks_view asks) parts page text → AreCommentsGone places page text
comments_gone page text tokens places asks parts t a g r =
    let with : IsSplicedPage (asks_view asks) page text (pieces_in page) = r (pieces_in page) g (page_texts (without_mark page)) in
    record {
      numbers = map number_of asks;
      comments = are_comments page tokens places 0 asks t a;
      splices = with.splices;
      separated = subst (λ (xs : List (Splice Put)). AreSeparated (pieces_in page) xs with.splices) (asks_are tokens places 0 asks a) with.asked;
      mark = with.mark;
      bytes = with.bytes;
      tokens = with.tokens;
    }

-- a comment that is missing

comment_kind : (k : TokenKind) (ts : List HtmlToken) → IsKind k ts → IsComment ts → k ≡ kind.Comment
comment_kind kind.Comment ts h s = refl
comment_kind kind.Text (CommentToken b ∷ []) h s = absurd (true≢false (sym h))
comment_kind kind.StartTag (CommentToken b ∷ []) h s = absurd h
comment_kind kind.EndTag (CommentToken b ∷ []) h s = absurd h
comment_kind kind.Doctype (CommentToken b ∷ []) h s = absurd h
comment_kind kind.Nothing (CommentToken b ∷ []) h s = cc
comment_kind k [] h s = absurd s
comment_kind k (CommentToken b ∷ t ∷ ts) h s = absurd s
comment_kind k (StartTag n a c ∷ ts) h s = absurd s
comment_kind k (EndTag n ∷ ts) h s = absurd s
comment_kind k (Character b ∷ ts) h s = absurd s
comment_kind k (DoctypeToken ∷ ts) h s = absurd s

abbrev pub AreEarly : List Token → ℕ → ℕ → Type 0
AreEarly tokens until place = (n : ℕ) (t : Token) → n < until → slice_get tokens n ≡ Some t → t.start < place

no_later : (page : List ℕ) (tokens : List Token) (place last number : ℕ) (u : Token) → AreTokensOf page tokens → IsCommentAt tokens last number u → last < place → AreEarly tokens (suc number) place
no_later page tokens place last number u t c less = λ n x l e. elim (cases_Bool (ltb n number)) [
  | inl y ↦
      let order : x.start ≤ u.start = begins_later page tokens n number x u t (ltb-true n number y) e c.is in
      omega (arith, order, c.start, less)
  | inr y ↦
      let same : n ≡ number = omega (arith, l, ltb-false n number y) in
      let is : x ≡ u = same_Some x u (sym e ∙ ap (slice_get tokens) same ∙ c.is) in
      let begins : x.start ≡ last = ap (λ (z : Token). z.start) is ∙ c.start in
      omega (arith, begins, less)
]

tail_of : (place first : ℕ) (places : List ℕ) → All (λ other. other < place) (first ∷ places) → All (λ other. other < place) places
tail_of place first places h = λ k d l. h (suc k) d (omega (arith, l))

all_early : (page : List ℕ) (tokens : List Token) (place from : ℕ) (places : List ℕ) (asks : List PlacedAsk) → AreTokensOf page tokens → AreCommentAsks from tokens places asks → All (λ other. other < place) places →
    AreEarly tokens from place → AreEarly tokens (past_asks from asks) place
all_early page tokens place from [] [] t a less h = h
all_early page tokens place from [] (b ∷ asks) t a less h = absurd a
all_early page tokens place from (p ∷ places) [] t a less h = absurd a
all_early page tokens place from (p ∷ places) (b ∷ asks) t a less h =
    all_early page tokens place (suc b.start.number) places asks t a.3 (tail_of place p places less) (no_later page tokens place p b.start.number b.start.token t a.1 (less 0 0 (omega arith)))

lacks_comment : (page : List ℕ) (tokens : List Token) (places : List ℕ) (place : ℕ) → AreTokensOf page tokens → LacksCommentIn tokens places place → LacksComment page places place
lacks_comment page tokens places place t h = record {
  front = h.front;
  back = h.back;
  is = h.is;
  numbers = map number_of h.asks;
  before = are_comments page tokens h.front 0 h.asks t h.before;
  none = λ less number b.
      let k = token_at page tokens (placed_pieces page) number place b.piece t b.begins in
      let begins : k.token.start ≡ place = (k.fits).start in
      elim (cases_Bool (ltb number (past_asks 0 h.asks))) [
        | inl y ↦
            let early : k.token.start < place = all_early page tokens place 0 h.front h.asks t h.before less (λ n x l e. absurd (omega (arith, l))) number k.token (ltb-true number (past_asks 0 h.asks) y) k.is in
            absurd (omega (arith, early, begins))
        | inr y ↦ h.none number k.token (ltb-false number (past_asks 0 h.asks) y) k.is begins (comment_kind k.token.kind (b.piece).tokens (k.fits).kind b.comment)
      ];
}

pub asks_refused : (page : List ℕ) (tokens : List Token) (places : List ℕ) (e : CommentError) → AreTokensOf page tokens → AreAsksRefused tokens places e → AreCommentsRefused places page e
asks_refused page tokens places (error.NoComment place) t h = lacks_comment page tokens places place t h
asks_refused page tokens places error.ReadOtherwise t h = absurd h
asks_refused page tokens places error.OutOfMemory t h = tt

-- a page that would be read otherwise without them

pub never_gone : (page : List ℕ) (tokens : List Token) (places : List ℕ) (asks : List PlacedAsk) (parts : List Part) → AreTokensOf page tokens → AreCommentAsks 0 tokens places asks → ArePieces parts (pieces_in page) →
    IsNeverSplicedOf (asks_view asks) parts page → CannotBeWithout places page
never_gone page tokens places asks parts t a g r =
    let with : IsNeverSpliced (asks_view asks) page (pieces_in page) = r (pieces_in page) g (page_texts (without_mark page)) in
    record {
      numbers = map number_of asks;
      comments = are_comments page tokens places 0 asks t a;
      splices = with.splices;
      separated = subst (λ (xs : List (Splice Put)). AreSeparated (pieces_in page) xs with.splices) (asks_are tokens places 0 asks a) with.asked;
      whole = with.whole;
      never = with.never;
    }

pub never_page : (page : List ℕ) (place : ℕ) (parts : List Part) (asks : List PlacedAsk) (e : EditError) (p : ℕ) → e ≡ edit.ReadOtherwise p → IsPageError page place parts asks e → IsNeverSplicedOf (asks_view asks) parts page
never_page page place parts asks e p is h = (subst (IsPageError page place parts asks) is h).1
