-- Raw texts that browsers may read as markup.
use Rattle.std.proofs.Common.{◌≡◌, ◌≤◌, ◌<◌, ℕ, zero, suc, ◌+◌, Bool, true, false, ◌||◌, ◌&&◌, List, [], ◌∷◌, length, drop, get_or, map, codes, Some, slice_get, refl, ap, ap₂, sym, subst, ◌∙◌, arith, if◌then◌else◌, inl, inr}
use Rattle.std.specs.List.{All, Contains, list_any}
use Rattle.std.specs.Prelude.{nat_lt}
use Rattle.std.specs.Str.{bytes_eq}
use Rattle.std.proofs.lemmas.Bool.{cases_Bool, ltb-true}
use Rattle.std.proofs.lemmas.List.{drop_all, drop_more}
use Rattle.std.proofs.lemmas.List.Sorted.{IsPermutation-refl}
use Rattle.std.proofs.lemmas.List.Elements.{All-map, Contains-get_or}
use Rattle.tl_html_spec.specs.HtmlTokenizer.{Character, CommentToken, DoctypeToken, EndTag, HtmlToken, StartTag, State}
use Rattle.tl_html_spec.specs.Pieces.{Piece, are_characters}
use Rattle.tl_html_tokens.specs.Characters.{characters_of}
use Rattle.tl_html_tokens.specs.Kinds.{IsKind, IsStartTag}
use Rattle.tl_html_tokens.specs.Modes.{state_of}
use Rattle.tl_html_tokens.specs.Tokens.{AreTokensOf, mark_len}
use Rattle.tl_html_tokens.specs.declared.stage.TokenKind.{TokenKind}
use Rattle.tl_html_tokens.specs.declared.stage.TokenKind.TheVariants as kind
use Rattle.tl_html_tokens.specs.declared.token.Token.{Token}
use Rattle.tl_patch_spec.specs.Patches.{Patch, Put, start_name, with_end}
use Rattle.tl_patch_spec.specs.RawTexts.{begins_unsure, cause_at, cause_of, is_markup, is_markup_put, is_markup_token, is_misread, is_misread_at, is_raw, is_raw_markup, is_raw_place, is_unescaped, is_unsure_name, is_unsure_put, raw_until, unsure_at, unsure_from, unsure_with}
use Rattle.tl_patch_spec.specs.Splices.{Splice}
use Rattle.tl_patch_spec.specs.Together.{ask_of}
use Rattle.tl_patch_edit.specs.Asks.{ask_view, asks_view}
use Rattle.tl_patch_edit.specs.Errors.{IsRefused, pieces_in, placed_pieces}
use Rattle.tl_patch_edit.specs.Inner.Limits.{AreKept, AreLimits, BeginsToken, IsDoubtless, IsMisreadError, is_misread_in, is_raw_at, is_start_kind}
use Rattle.tl_patch_edit.specs.Inner.Parts.{ArePieces, IsPieceOf, Part, Says, is_text_kind, view_at}
use Rattle.tl_patch_edit.specs.Kept.{KeepRawTexts}
use Rattle.tl_patch_edit.specs.Several.{AreMeantAt, AreSorted, asked_view}
use Rattle.tl_patch_edit.specs.View.{meant_view, patches_view}
use Rattle.tl_patch_edit.specs.declared.ask.MeantPatch.{MeantPatch}
use Rattle.tl_patch_edit.specs.declared.ask.PlacedAsk.{PlacedAsk}
use Rattle.tl_patch_edit.specs.declared.ask.PlacedPatch.{PlacedPatch}
use Rattle.tl_patch_edit.specs.declared.error.EditError.{EditError}
use Rattle.tl_patch_edit.specs.declared.error.EditError.TheVariants as error
use Rattle.tl_patch_edit.specs.declared.raw_text.Limits.{Limits}
use Rattle.tl_patch_edit.proofs.Edited.{Meant, token_meant}
use Rattle.tl_patch_edit.proofs.Refusals.{AreAskedOf, contains_map, one_at}
use Rattle.tl_patch_edit.proofs.Said.{page_pieces}
use Rattle.tl_patch_edit.proofs.Splicing.{Stands}
use Rattle.tl_patch_edit.proofs.Tails.{count_pieces, drop_at, part_stands}
use Rattle.tl_patch_edit.proofs.Together.{asks_are, meant_begin}

-- names

six : (a b c d e f : Bool) → (a || b || c || d || e || f) ≡ (a || (b || (c || (d || (e || (f || false))))))
six true b c d e f = refl
six false true c d e f = refl
six false false true d e f = refl
six false false false true e f = refl
six false false false false true f = refl
six false false false false false true = refl
six false false false false false false = refl

names_are : (name : List ℕ) →
    (bytes_eq name (codes "svg") || (bytes_eq name (codes "math") || (bytes_eq name (codes "frameset") || (bytes_eq name (codes "template") || (bytes_eq name (codes "noscript") || (bytes_eq name (codes "select") || false)))))) ≡ is_unsure_name name
names_are name = refl

-- start tags

named : (ts : List HtmlToken) (name : List ℕ) → IsStartTag ts → start_name ts ≡ Some name → begins_unsure ts ≡ is_unsure_name name
named (StartTag n a v ∷ []) name s h = ap is_unsure_name (let e : n ≡ name = cc in e)
named [] name s h = absurd s
named (StartTag n a v ∷ t ∷ ts) name s h = absurd s
named (EndTag n ∷ ts) name s h = absurd s
named (Character b ∷ ts) name s h = absurd s
named (CommentToken n ∷ ts) name s h = absurd s
named (DoctypeToken ∷ ts) name s h = absurd s

not_characters : (ts : List HtmlToken) → are_characters ts ≡ true → begins_unsure ts ≡ false
not_characters [] h = refl
not_characters (StartTag n a v ∷ ts) h = cc
not_characters (EndTag n ∷ ts) h = refl
not_characters (Character b ∷ ts) h = refl
not_characters (CommentToken n ∷ ts) h = refl
not_characters (DoctypeToken ∷ ts) h = refl

not_begun : (k : TokenKind) (ts : List HtmlToken) → is_start_kind k ≡ false → IsKind k ts → begins_unsure ts ≡ false
not_begun kind.Text ts n h = not_characters ts h
not_begun kind.StartTag ts n h = cc
not_begun kind.EndTag (EndTag m ∷ ts) n h = refl
not_begun kind.EndTag [] n h = refl
not_begun kind.EndTag (StartTag m a v ∷ ts) n h = absurd h
not_begun kind.EndTag (Character b ∷ ts) n h = refl
not_begun kind.EndTag (CommentToken b ∷ ts) n h = refl
not_begun kind.EndTag (DoctypeToken ∷ ts) n h = refl
not_begun kind.Comment (CommentToken m ∷ ts) n h = refl
not_begun kind.Comment [] n h = refl
not_begun kind.Comment (StartTag m a v ∷ ts) n h = absurd h
not_begun kind.Comment (EndTag m ∷ ts) n h = refl
not_begun kind.Comment (Character b ∷ ts) n h = refl
not_begun kind.Comment (DoctypeToken ∷ ts) n h = refl
not_begun kind.Doctype (DoctypeToken ∷ ts) n h = refl
not_begun kind.Doctype [] n h = refl
not_begun kind.Doctype (StartTag m a v ∷ ts) n h = absurd h
not_begun kind.Doctype (EndTag m ∷ ts) n h = refl
not_begun kind.Doctype (Character b ∷ ts) n h = refl
not_begun kind.Doctype (CommentToken m ∷ ts) n h = refl
not_begun kind.Nothing ts n h = ap begins_unsure h

pub no_start : (x : Part) (p : Piece) → is_start_kind x.kind ≡ false → IsPieceOf x p → begins_unsure p.tokens ≡ false
no_start x p n i = not_begun x.kind p.tokens n i.kind

-- raw texts

said_markup : (cs : List ℕ) → list_any is_markup_token (map Character cs) ≡ is_markup cs
said_markup [] = refl
said_markup (c ∷ cs) = ap (λ (v : Bool). is_markup_token (Character c) || v) (said_markup cs)

never : (v : Bool) → (v && false) ≡ false
never true = refl
never false = refl

no_markup : (k : TokenKind) (ts : List HtmlToken) → is_text_kind k ≡ false → IsKind k ts → list_any is_markup_token ts ≡ false
no_markup kind.Text ts n h = cc
no_markup kind.StartTag (StartTag m a v ∷ []) n h = refl
no_markup kind.StartTag [] n h = refl
no_markup kind.StartTag (StartTag m a v ∷ t ∷ ts) n h = absurd h
no_markup kind.StartTag (EndTag m ∷ ts) n h = absurd h
no_markup kind.StartTag (Character b ∷ ts) n h = absurd h
no_markup kind.StartTag (CommentToken m ∷ ts) n h = absurd h
no_markup kind.StartTag (DoctypeToken ∷ ts) n h = absurd h
no_markup kind.EndTag (EndTag m ∷ []) n h = refl
no_markup kind.EndTag [] n h = refl
no_markup kind.EndTag (EndTag m ∷ t ∷ ts) n h = absurd h
no_markup kind.EndTag (StartTag m a v ∷ ts) n h = absurd h
no_markup kind.EndTag (Character b ∷ ts) n h = absurd h
no_markup kind.EndTag (CommentToken m ∷ ts) n h = absurd h
no_markup kind.EndTag (DoctypeToken ∷ ts) n h = absurd h
no_markup kind.Comment (CommentToken m ∷ []) n h = refl
no_markup kind.Comment [] n h = refl
no_markup kind.Comment (CommentToken m ∷ t ∷ ts) n h = absurd h
no_markup kind.Comment (StartTag m a v ∷ ts) n h = absurd h
no_markup kind.Comment (EndTag m ∷ ts) n h = absurd h
no_markup kind.Comment (Character b ∷ ts) n h = absurd h
no_markup kind.Comment (DoctypeToken ∷ ts) n h = absurd h
no_markup kind.Doctype (DoctypeToken ∷ []) n h = refl
no_markup kind.Doctype [] n h = refl
no_markup kind.Doctype (DoctypeToken ∷ t ∷ ts) n h = absurd h
no_markup kind.Doctype (StartTag m a v ∷ ts) n h = absurd h
no_markup kind.Doctype (EndTag m ∷ ts) n h = absurd h
no_markup kind.Doctype (Character b ∷ ts) n h = absurd h
no_markup kind.Doctype (CommentToken m ∷ ts) n h = absurd h
no_markup kind.Nothing ts n h = ap (list_any is_markup_token) h

not_raw_kind : (k : TokenKind) (s t : State) (ts : List HtmlToken) → s ≡ t → (is_text_kind k && is_raw t) ≡ false → IsKind k ts → (is_raw s && list_any is_markup_token ts) ≡ false
not_raw_kind kind.Text s t ts e n h = ap (λ (v : Bool). v && list_any is_markup_token ts) (ap is_raw e ∙ n)
not_raw_kind kind.StartTag s t ts e n h = ap (λ (v : Bool). is_raw s && v) (no_markup kind.StartTag ts refl h) ∙ never (is_raw s)
not_raw_kind kind.EndTag s t ts e n h = ap (λ (v : Bool). is_raw s && v) (no_markup kind.EndTag ts refl h) ∙ never (is_raw s)
not_raw_kind kind.Comment s t ts e n h = ap (λ (v : Bool). is_raw s && v) (no_markup kind.Comment ts refl h) ∙ never (is_raw s)
not_raw_kind kind.Doctype s t ts e n h = ap (λ (v : Bool). is_raw s && v) (no_markup kind.Doctype ts refl h) ∙ never (is_raw s)
not_raw_kind kind.Nothing s t ts e n h = ap (λ (v : Bool). is_raw s && v) (no_markup kind.Nothing ts refl h) ∙ never (is_raw s)

pub not_raw : (x : Part) (p : Piece) → (is_text_kind x.kind && is_raw (state_of x.mode)) ≡ false → IsPieceOf x p → is_raw_markup p ≡ false
not_raw x p n i = not_raw_kind x.kind p.rest (state_of x.mode) p.tokens i.rest n i.kind

raw_kind : (k : TokenKind) (v : Bool) → (is_text_kind k && v) ≡ true → (k ≡ kind.Text) × (v ≡ true)
raw_kind kind.Text v h = (refl, h)
raw_kind kind.StartTag v h = cc
raw_kind kind.EndTag v h = cc
raw_kind kind.Comment v h = cc
raw_kind kind.Doctype v h = cc
raw_kind kind.Nothing v h = cc

pub raw_text : (x : Part) (p : Piece) → (is_text_kind x.kind && is_raw (state_of x.mode)) ≡ true → IsPieceOf x p → is_raw_markup p ≡ is_markup (characters_of x.mode x.bytes)
raw_text x p n i =
    let k = raw_kind x.kind (is_raw (state_of x.mode)) n in
    let said : p.tokens ≡ map Character (characters_of x.mode x.bytes) = subst (λ (l : TokenKind). Says l x.mode x.bytes p.tokens) k.0 i.says in
    ap₂ (λ (v w : Bool). v && w) (ap is_raw i.rest ∙ k.1) (ap (list_any is_markup_token) said ∙ said_markup (characters_of x.mode x.bytes))

-- the tokens of a page, one by one

abbrev pub SaysUnsure : List ℕ → Token → Bool → Type 0
SaysUnsure page token is = (p : Piece) → IsPieceOf (view_at page token) p → begins_unsure p.tokens ≡ is

unsure_one : (n : ℕ) (ps : List Piece) (p : Piece) (v : Bool) → slice_get ps n ≡ Some p → begins_unsure p.tokens ≡ v →
    unsure_from n (drop n ps) ≡ (if v then n else unsure_from (suc n) (drop (suc n) ps))
unsure_one n ps p v s h =
    ap (unsure_from n) (drop_at ps n p s) ∙ ap (λ (w : Bool). if w then n else unsure_from (suc n) (drop (suc n) ps)) h

pub unsure_step : (page : List ℕ) (tokens : List Token) (at : ℕ) (d : Token) (v : Bool) → AreTokensOf page tokens → at < length tokens → SaysUnsure page (get_or tokens at d) v →
    unsure_from at (drop at (pieces_in page)) ≡ (if v then at else unsure_from (at + 1) (drop (at + 1) (pieces_in page)))
unsure_step page tokens at d v h l f =
    let s : Stands (view_at page (get_or tokens at d)) (pieces_in page) at = part_stands page tokens at d h l in
    unsure_one at (pieces_in page) s.piece v s.stands (f s.piece s.is)
    ∙ ap (λ n. if v then at else unsure_from n (drop n (pieces_in page))) (let e : suc at ≡ at + 1 = omega arith in e)

pub none_unsure : (page : List ℕ) (tokens : List Token) (at : ℕ) → AreTokensOf page tokens → length tokens ≤ at → unsure_from at (drop at (pieces_in page)) ≡ at
none_unsure page tokens at h l = ap (unsure_from at) (drop_all at (pieces_in page) (omega (arith, count_pieces page tokens h)))

abbrev pub SaysRaw : List ℕ → Token → Bool → Type 0
SaysRaw page token is = (p : Piece) → IsPieceOf (view_at page token) p → is_raw_markup p ≡ is

pub raw_step : (page : List ℕ) (tokens : List Token) (at until : ℕ) (d : Token) (v : Bool) → AreTokensOf page tokens → at < length tokens → SaysRaw page (get_or tokens at d) v →
    raw_until until at (drop at (pieces_in page)) ≡ raw_until (if v then at + 1 else until) (at + 1) (drop (at + 1) (pieces_in page))
raw_step page tokens at until d v h l f =
    let ps : List Piece = pieces_in page in
    let s : Stands (view_at page (get_or tokens at d)) ps at = part_stands page tokens at d h l in
    ap (raw_until until at) (drop_at ps at s.piece s.stands)
    ∙ ap (λ (w : Bool). raw_until (if w then suc at else until) (suc at) (drop (suc at) ps)) (f s.piece s.is)
    ∙ ap (λ n. raw_until (if v then n else until) n (drop n ps)) (let e : suc at ≡ at + 1 = omega arith in e)

pub none_raw : (page : List ℕ) (tokens : List Token) (at until : ℕ) → AreTokensOf page tokens → length tokens ≤ at → raw_until until at (drop at (pieces_in page)) ≡ until
none_raw page tokens at until h l = ap (raw_until until at) (drop_all at (pieces_in page) (omega (arith, count_pieces page tokens h)))

-- what is asked for, one by one

pub with_one : (asks : List PlacedAsk) (at unsure next : ℕ) (d : PlacedAsk) → at < length asks → next ≡ unsure_at unsure (ask_view (get_or asks at d).ask) →
    unsure_with unsure (asks_view (drop at asks)) ≡ unsure_with next (asks_view (drop (at + 1) asks))
with_one asks at unsure next d l e =
    ap (λ (xs : List PlacedAsk). unsure_with unsure (asks_view xs)) (drop_more asks at d l)
    ∙ ap (λ n. unsure_with n (asks_view (drop (at + 1) asks))) (sym e)

pub with_none : (asks : List PlacedAsk) (at unsure : ℕ) → length asks ≤ at → unsure_with unsure (asks_view (drop at asks)) ≡ unsure
with_none asks at unsure l = ap (λ (xs : List PlacedAsk). unsure_with unsure (asks_view xs)) (drop_all at asks l)

-- what is asked for, as it is read in the tokens

raw_same : (page : List ℕ) (tokens : List Token) (ps : List Piece) (n : ℕ) → ArePieces (map (view_at page) tokens) ps → is_raw_place (slice_get (with_end ps) n) ≡ is_raw_at tokens n
raw_same page [] [] zero h = refl
raw_same page [] [] (suc n) h = refl
raw_same page [] (p ∷ ps) n h = absurd h
raw_same page (t ∷ ts) [] n h = absurd h
raw_same page (t ∷ ts) (p ∷ ps) zero h = ap is_unescaped (h.0).rest
raw_same page (t ∷ ts) (p ∷ ps) (suc n) h = raw_same page ts ps n h.1

pub misread_same : (page : List ℕ) (tokens : List Token) (limits : Limits) (asks : List (Splice Put)) (ask : Splice Put) → AreTokensOf page tokens → AreLimits (pieces_in page) asks limits →
    is_misread (pieces_in page) asks ask ≡ is_misread_in tokens limits ask
misread_same page tokens limits asks ask h l =
    ap₂ (λ (u r : ℕ). is_misread_at (pieces_in page) u r ask) (sym l.unsure) (sym l.raw_until)
    ∙ ap (λ (v : Bool). (list_any is_markup_put ask.put && (v && nat_lt limits.unsure ask.from)) || (list_any is_unsure_put ask.put && nat_lt ask.from limits.raw_until))
    (raw_same page tokens (pieces_in page) ask.from (page_pieces page tokens h))

raw_inside : (tokens : List Token) (n : ℕ) → is_raw_at tokens n ≡ true → n < length tokens
raw_inside [] n h = cc
raw_inside (t ∷ ts) zero h = omega arith
raw_inside (t ∷ ts) (suc n) h =
    let l : n < length ts = raw_inside ts n h in
    omega arith

until_within : (last n : ℕ) (ps : List Piece) → last ≤ n → raw_until last n ps ≤ n + length ps
until_within last n [] l = omega arith
until_within last n (p ∷ ps) l =
    let next : (if is_raw_markup p then suc n else last) ≤ suc n = elim (cases_Bool (is_raw_markup p)) [
      | inl y ↦ subst (λ (v : Bool). (if v then suc n else last) ≤ suc n) (sym y) (let e : suc n ≤ suc n = omega arith in e)
      | inr y ↦ subst (λ (v : Bool). (if v then suc n else last) ≤ suc n) (sym y) (let e : last ≤ suc n = omega arith in e)
    ] in
    let more : raw_until (if is_raw_markup p then suc n else last) (suc n) ps ≤ suc n + length ps = until_within (if is_raw_markup p then suc n else last) (suc n) ps next in
    omega (arith, more)

or_false : (v : Bool) → (v || false) ≡ true → v ≡ true
or_false true h = refl
or_false false h = cc

named_inside : (m a b : Bool) (from until len : ℕ) → ((m && (a && b)) || nat_lt from until) ≡ true → (a ≡ true → from < len) → until ≤ len → from < len
named_inside true true b from until len h f l = f refl
named_inside true false b from until len h f l =
    let k : from < until = ltb-true from until h in
    omega arith
named_inside false a b from until len h f l =
    let k : from < until = ltb-true from until h in
    omega arith

unsure_inside : (m a : Bool) (unsure from len : ℕ) → ((m && (a && nat_lt unsure from)) || false) ≡ true → (a ≡ true → from < len) → unsure < len
unsure_inside true true unsure from len h f =
    let k : unsure < from = ltb-true unsure from (or_false (nat_lt unsure from) h) in
    let l : from < len = f refl in
    omega arith
unsure_inside true false unsure from len h f = cc
unsure_inside false a unsure from len h f = cc

either_inside : (m n a : Bool) (unsure from until len : ℕ) → ((m && (a && nat_lt unsure from)) || (n && nat_lt from until)) ≡ true → (a ≡ true → from < len) → until ≤ len →
    (if n then from else unsure) < len
either_inside m true a unsure from until len h f l = named_inside m a (nat_lt unsure from) from until len h f l
either_inside m false a unsure from until len h f l = unsure_inside m a unsure from len h f

pub cause_inside : (page : List ℕ) (tokens : List Token) (limits : Limits) (asks : List (Splice Put)) (ask : Splice Put) → AreTokensOf page tokens → AreLimits (pieces_in page) asks limits →
    is_misread_in tokens limits ask ≡ true → cause_at limits.unsure ask < length tokens
cause_inside page tokens limits asks ask h l m =
    let until : raw_until 0 0 (pieces_in page) ≤ 0 + length (pieces_in page) = until_within 0 0 (pieces_in page) (omega arith) in
    let within : limits.raw_until ≤ length tokens = omega (arith, until, l.raw_until, count_pieces page tokens h) in
    either_inside (list_any is_markup_put ask.put) (list_any is_unsure_put ask.put) (is_raw_at tokens ask.from) limits.unsure ask.from limits.raw_until (length tokens) m (raw_inside tokens ask.from) within

pub cause_within : (page : List ℕ) (tokens : List Token) (limits : Limits) (asks : List PlacedAsk) (one : PlacedAsk) (cause : ℕ) → AreTokensOf page tokens → AreLimits (pieces_in page) (asks_view asks) limits →
    is_misread_in tokens limits (ask_view one.ask) ≡ true → cause ≡ cause_at limits.unsure (ask_view one.ask) → cause < length tokens
cause_within page tokens limits asks one cause h l m c = subst (λ n. n < length tokens) (sym c) (cause_inside page tokens limits (asks_view asks) (ask_view one.ask) h l m)

pub cause_same : (ps : List Piece) (asks : List (Splice Put)) (limits : Limits) (ask : Splice Put) → AreLimits ps asks limits → cause_at limits.unsure ask ≡ cause_of ps asks ask
cause_same ps asks limits ask l = ap (λ n. cause_at n ask) l.unsure

-- asks that are kept, and those that aren't

pub are_kept : (page : List ℕ) (tokens : List Token) (limits : Limits) (asks : List PlacedAsk) → AreTokensOf page tokens → AreLimits (pieces_in page) (asks_view asks) limits →
    All (λ (one : PlacedAsk). is_misread_in tokens limits (ask_view one.ask) ≡ false) asks → AreKept (pieces_in page) asks
are_kept page tokens limits asks h l a = λ k d b. misread_same page tokens limits (asks_view asks) (ask_view (get_or asks k d).ask) h l ∙ a k d b

pub misread_by : (page : List ℕ) (tokens : List Token) (limits : Limits) (asks : List PlacedAsk) (at cause place : ℕ) (d : PlacedAsk) → AreTokensOf page tokens → AreLimits (pieces_in page) (asks_view asks) limits →
    at < length asks → is_misread_in tokens limits (ask_view (get_or asks at d).ask) ≡ true → cause ≡ cause_at limits.unsure (ask_view (get_or asks at d).ask) → BeginsToken tokens cause place →
    IsMisreadError (pieces_in page) tokens asks (error.Misread (get_or asks at d).start.token.start place)
misread_by page tokens limits asks at cause place d h l b m c k =
    let one : PlacedAsk = get_or asks at d in
    let ask : Splice Put = ask_view one.ask in (
      one,
      record { among = Contains-get_or asks at d b; begins = refl },
      (
        misread_same page tokens limits (asks_view asks) ask h l ∙ m,
        subst (λ n. BeginsToken tokens n place) (c ∙ cause_same (pieces_in page) (asks_view asks) limits ask l) k,
      ),
    )

pub kept_where : (page : List ℕ) (tokens : List Token) (patches : List PlacedPatch) (meant : List MeantPatch) (asks : List PlacedAsk) → AreTokensOf page tokens → AreMeantAt 0 tokens patches meant →
    AreSorted (pieces_in page) (meant_view meant) asks → AreKept (pieces_in page) asks → KeepRawTexts (patches_view patches) page
kept_where page tokens patches meant asks h m s k =
    let viewed : All (λ (ask : Splice Put). is_misread (pieces_in page) (asks_view asks) ask ≡ false) (asks_view asks) =
    All-map (λ (ask : Splice Put). is_misread (pieces_in page) (asks_view asks) ask ≡ false) (λ (p : PlacedAsk). ask_view p.ask) asks k in
    record {
      numbered = meant_view meant;
      begin = meant_begin page tokens patches 0 meant h m;
      each = s.each;
      asked = s.asked;
      asks = asked_view asks;
      same = s.same;
      kept = subst (λ (xs : List (Splice Put)). All (λ (ask : Splice Put). is_misread (pieces_in page) xs ask ≡ false) xs) (sym (asks_are asks)) viewed;
    }

pub misread_refused : (page : List ℕ) (tokens : List Token) (patches : List (ℕ × Patch)) (parts : List Part) (meant : List MeantPatch) (asks : List PlacedAsk) (e : EditError) → AreTokensOf page tokens →
    AreAskedOf page patches parts meant asks → IsMisreadError (pieces_in page) tokens asks e → IsRefused page patches e
misread_refused page tokens patches parts meant asks error.OutOfMemory h a m = tt
misread_refused page tokens patches parts meant asks (error.Misread p cause) h a m =
    let ps : List Piece = pieces_in page in
    let ask : Splice Put = ask_view (m.0).ask in
    let same : asks_view asks ≡ map ask_of (asked_view asks) = sym (asks_are asks) in
    let token : Token = ((m.2).1).0 in
    let piece : Meant page token (mark_len page) (cause_of ps (asks_view asks) ask) ps = token_meant page tokens (cause_of ps (asks_view asks) ask) token h ((m.2).1).1 in
    record {
      numbered = meant_view meant;
      begin = a.begin;
      each = a.sorted.each;
      asked = a.sorted.asked;
      asks = asked_view asks;
      same = a.sorted.same;
      ask = ask;
      among = subst (λ (xs : List (Splice Put)). Contains xs ask) same (contains_map (λ (x : PlacedAsk). ask_view x.ask) asks m.0 (m.1).among);
      at = one_at page patches parts meant asks p m.0 a m.1;
      misread = subst (λ (xs : List (Splice Put)). is_misread ps xs ask ≡ true) same (m.2).0;
      piece = piece.piece;
      begins = subst (λ (xs : List (Splice Put)). slice_get (placed_pieces page) (cause_of ps xs ask) ≡ Some (cause, piece.piece)) same
          (piece.begins ∙ ap (λ n. Some (n, piece.piece)) ((m.2).1).2);
    }
misread_refused page tokens patches parts meant asks (error.NoStartTag p) h a m = absurd m
misread_refused page tokens patches parts meant asks (error.NotMeant p) h a m = absurd m
misread_refused page tokens patches parts meant asks (error.Across p) h a m = absurd m
misread_refused page tokens patches parts meant asks (error.EndOfPage p) h a m = absurd m
misread_refused page tokens patches parts meant asks (error.NotWritten p) h a m = absurd m
misread_refused page tokens patches parts meant asks (error.ReadOtherwise p) h a m = absurd m

pub none_kept : (page : List ℕ) → KeepRawTexts [] page
none_kept page = record {
  numbered = [];
  begin = tt;
  each = [];
  asked = refl;
  asks = [];
  same = IsPermutation-refl [];
  kept = λ k d l. absurd (omega arith);
}

-- what is read as markup in no page

neither : (a b c d : Bool) → a ≡ false → b ≡ false → ((a && c) || (b && d)) ≡ false
neither a b c d e f = rw (e, f)

pub doubtless_kept : (ps : List Piece) (asks : List PlacedAsk) → All IsDoubtless asks → AreKept ps asks
doubtless_kept ps asks h = λ k d l.
    let one : IsDoubtless (get_or asks k d) = h k d l in
    neither _ _ _ _ one.text one.name
