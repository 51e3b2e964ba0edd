-- A piece is read byte by byte.
use Rattle.std.proofs.Common.{◌≡◌, ◌≤◌, ◌<◌, ◌⊎◌, ℕ, ◌+◌, Bool, true, false, ◌==◌, ◌&&◌, List, [], ◌∷◌, ◌++◌, length, drop, get_or, Some, None, codes, refl, ap, ap₂, sym, subst, subst₂, ◌∙◌, ◌||◌, inl, inr, true≢false, arith, le_refl, append-nil, if◌then◌else◌}
use Rattle.std.proofs.lemmas.Bool.{cases_Bool, cond_both, eqb-true}
use Rattle.std.proofs.lemmas.List.{drop_more}
use Rattle.tl_html_spec.specs.HtmlTokenizer as T
use Rattle.tl_html_spec.specs.HtmlTokenizer.{HtmlToken, State, Step, at_end, char_of, step, whole_step}
use Rattle.tl_html_spec.specs.Pieces.{piece, pieces_from, runs}
use Rattle.tl_html_spec.specs.Reader.{Reader, Rest, after, at, byte_step, emitted, feed, is_at_rest, next, read, rest_before, rest_if, rest_within, tokens_of}
use Rattle.tl_html_spec.specs.Driven.{opens_cdata}
use Rattle.tl_html_spec.proofs.Cutting.{tokens_end}
use Rattle.tl_html_spec.proofs.Fold.{after_append, emitted_append}
use Rattle.tl_html_spec.proofs.Resting.{settled_at_once}
use Rattle.tl_html_spec.proofs.Starts.{rest_quiet}
use Rattle.tl_html_tokens.specs.Ends.{NoStart, OpensAtMostFirst, Pends, StartsLast, opens}
use Rattle.tl_html_tokens.specs.Fronts.{IsFront, pieces_at}
use Rattle.tl_html_tokens.specs.Kinds.{IsKind}
use Rattle.tl_html_tokens.specs.Inner.Machine as M
use Rattle.tl_html_tokens.specs.Modes.{state_of}
use Rattle.tl_html_tokens.specs.Inner.Scans as S
use Rattle.tl_html_tokens.specs.Inner.Stages.{has_word}
use Rattle.tl_html_tokens.specs.declared.front.Scan.{Scan}
use Rattle.tl_html_tokens.specs.declared.front.Scanned.{Scanned}
use Rattle.tl_html_tokens.specs.declared.front.Scanned.TheVariants.{On, Before}
use Rattle.tl_html_tokens.specs.declared.mode.Mode.{Mode}
use Rattle.tl_html_tokens.specs.declared.mode.Mode.TheVariants as mode
use Rattle.tl_html_tokens.specs.declared.stage.TokenKind.{TokenKind}
use Rattle.tl_html_tokens.specs.declared.stage.Quote.{Quote}
use Rattle.tl_html_tokens.specs.declared.stage.Quote.TheVariants as quote
use Rattle.tl_html_tokens.specs.declared.stage.Tag.{Tag}
use Rattle.tl_html_tokens.specs.declared.stage.Place.{Place}
use Rattle.tl_html_tokens.specs.declared.stage.Place.TheVariants as place
use Rattle.tl_html_tokens.specs.declared.stage.Stage.{Stage}
use Rattle.tl_html_tokens.specs.declared.stage.Stage.TheVariants as stage
use Rattle.tl_html_tokens.specs.declared.stage.Turn.{Turn}
use Rattle.tl_html_tokens.specs.declared.stage.Turn.TheVariants.{Goes, Ends}
use Rattle.tl_html_tokens.proofs.Early.{begun_starts, early_before, feed_starts, is_early, mode_opens_none, no_open, opening, stage_quiet, starts_stage, turn_starts}
use Rattle.tl_html_tokens.proofs.Reached.{BegunBy, begun_passed, early_begun, first_begun, opens_append, quiet_of, starts_more}
use Rattle.tl_html_tokens.proofs.Cuts.{first_alone}
use Rattle.tl_html_tokens.proofs.Pending.{Holds, pends, rest_end}
use Rattle.tl_html_tokens.proofs.Places.{between, between_length, between_more, between_none, cut, feed_plain}
use Rattle.tl_html_tokens.proofs.Steps.{IsBegun, IsRaw, IsStage, IsValue, Met, char_some, chars, met, next_word, raw_of, rests}
use Rattle.tl_html_tokens.proofs.Turns.{rest_here, turned}
use Rattle.tl_html_spec.specs.Sound.{IsSome}

-- a line feed ends each word

abbrev pub keeps_word : Turn → Bool
keeps_word (Goes c) = has_word c
keeps_word (Ends k m) = false

past_keeps : (p : Place) → keeps_word (M.leave p 10) ≡ false
past_keeps (place.Text m) = refl
past_keeps (place.Value quote.Double tag) = refl
past_keeps (place.Value quote.Single tag) = refl
past_keeps (place.Value quote.Absent tag) = refl

value_keeps : (q : Quote) (tag : Tag) → keeps_word (M.value q tag 10) ≡ false
value_keeps quote.Double tag = refl
value_keeps quote.Single tag = refl
value_keeps quote.Absent tag = refl

less_keeps : (m : Mode) → keeps_word (M.after_less_than m 10) ≡ false
less_keeps mode.Script = refl
less_keeps mode.ScriptEscaped = refl
less_keeps _ = refl

neither_keeps : (v : Bool) (o p : Turn) → keeps_word o ≡ false → keeps_word p ≡ false → keeps_word (if v then o else p) ≡ false
neither_keeps true o p h k = h
neither_keeps false o p h k = k

pub ends_word : (c : Stage) (w : List ℕ) → keeps_word (M.turn c w 10) ≡ false
ends_word (stage.Reference p) w = past_keeps p
ends_word (stage.NamedReference p) w = past_keeps p
ends_word (stage.NumericReference p) w = past_keeps p
ends_word (stage.HexadecimalStart p) w = past_keeps p
ends_word (stage.DecimalStart p) w = past_keeps p
ends_word (stage.Hexadecimal p) w = past_keeps p
ends_word (stage.Decimal p) w = past_keeps p
ends_word (stage.RawLessThan m) w = less_keeps m
ends_word (stage.RawEndTagName m) w = neither_keeps (M.is_own m w) _ _ refl refl
ends_word stage.DoubleEscapeStart w = neither_keeps (M.is_script w) _ _ refl refl
ends_word stage.DoubleEscapeEnd w = neither_keeps (M.is_script (drop 1 w)) _ _ refl refl
ends_word (stage.Value q tag) w = value_keeps q tag
ends_word _ w = refl

-- stages at which a piece is begun and not whole

pub begun_or : (c : Stage) → IsBegun c ⊎ ((k : TokenKind) × (m : Mode) × (c ≡ stage.Whole k m))
begun_or (stage.Whole k m) = inr (k, m, refl)
begun_or _ = inl tt

value_rests : (q : Quote) (o : T.OpenTag) (key v : List ℕ) (s : State) → IsValue q o key v s → is_at_rest s ≡ false
value_rests quote.Double o key v s e = ap is_at_rest e
value_rests quote.Single o key v s e = ap is_at_rest e
value_rests quote.Absent o key v s e = ap is_at_rest e

pub no_rest : (w : List ℕ) (c : Stage) (s : State) (ts : List HtmlToken) → IsStage w c s ts → IsBegun c → is_at_rest s ≡ false
no_rest w (stage.Whole k m) s ts h g = absurd g
no_rest w (stage.Reference p) s ts (r, h, e, t) g = ap is_at_rest e
no_rest w (stage.NamedReference p) s ts (r, buffer, some, h, e, t) g = ap is_at_rest e
no_rest w (stage.NumericReference p) s ts (r, h, e, t) g = ap is_at_rest e
no_rest w (stage.HexadecimalStart p) s ts (r, x, h, e, t) g = ap is_at_rest e
no_rest w (stage.DecimalStart p) s ts (r, h, e, t) g = ap is_at_rest e
no_rest w (stage.Hexadecimal p) s ts (r, code, h, e, t) g = ap is_at_rest e
no_rest w (stage.Decimal p) s ts (r, code, h, e, t) g = ap is_at_rest e
no_rest w stage.TagOpen s ts (x, e, t) g = ap is_at_rest e
no_rest w stage.EndTagOpen s ts (x, e, t) g = ap is_at_rest e
no_rest w (stage.TagName is_end) s ts (e, t) g = ap is_at_rest e
no_rest w (stage.RawLessThan m) s ts (h, x, e, t) g = ap is_at_rest e
no_rest w (stage.RawEndTagOpen m) s ts (h, x, e, t) g = ap is_at_rest e
no_rest w (stage.RawEndTagName m) s ts (h, e, t) g = ap is_at_rest e
no_rest w stage.EscapeStart s ts (e, t) g = ap is_at_rest e
no_rest w stage.EscapeStartDash s ts (e, t) g = ap is_at_rest e
no_rest w stage.DoubleEscapeStart s ts (e, t) g = ap is_at_rest e
no_rest w stage.DoubleEscaped s ts (e, t) g = ap is_at_rest e
no_rest w stage.DoubleEscapedDash s ts (e, t) g = ap is_at_rest e
no_rest w stage.DoubleEscapedDashDash s ts (e, t) g = ap is_at_rest e
no_rest w stage.DoubleEscapedLessThan s ts (x, e, t) g = ap is_at_rest e
no_rest w stage.DoubleEscapeEnd s ts (v, x, e, t) g = ap is_at_rest e
no_rest w (stage.BeforeKey tag) s ts (o, h, e, t) g = ap is_at_rest e
no_rest w (stage.Key tag) s ts (o, key, h, e, t) g = ap is_at_rest e
no_rest w (stage.AfterKey tag) s ts (o, key, h, e, t) g = ap is_at_rest e
no_rest w (stage.BeforeValue tag) s ts (o, key, h, e, t) g = ap is_at_rest e
no_rest w (stage.Value q tag) s ts ((o, key, v, h, e), t) g = value_rests q o key v s e
no_rest w (stage.AfterValue tag) s ts (o, h, e, t) g = ap is_at_rest e
no_rest w (stage.SelfClosing tag) s ts (o, h, e, t) g = ap is_at_rest e
no_rest w stage.BogusComment s ts (bytes, e, t) g = ap is_at_rest e
no_rest w stage.Declaration s ts (v, x, e, t) g = ap is_at_rest e
no_rest w stage.CommentStart s ts (e, t) g = ap is_at_rest e
no_rest w stage.CommentStartDash s ts (e, t) g = ap is_at_rest e
no_rest w stage.Comment s ts (bytes, e, t) g = ap is_at_rest e
no_rest w stage.CommentLessThan s ts (bytes, e, t) g = ap is_at_rest e
no_rest w stage.CommentBang s ts (bytes, e, t) g = ap is_at_rest e
no_rest w stage.CommentBangDash s ts (bytes, e, t) g = ap is_at_rest e
no_rest w stage.CommentBangDashDash s ts (bytes, e, t) g = ap is_at_rest e
no_rest w stage.CommentEndDash s ts (bytes, e, t) g = ap is_at_rest e
no_rest w stage.CommentEnd s ts (bytes, e, t) g = ap is_at_rest e
no_rest w stage.CommentEndBang s ts (bytes, e, t) g = ap is_at_rest e
no_rest w stage.Doctype s ts (e, t) g = ap is_at_rest e

-- a byte that is passed over, and one that isn't

abbrev pub reader : State → Bool → Reader
reader s v = record { state = s; after_return = v }

pub rest_passed : (s : State) (v : Bool) (b : ℕ) → (v && (b == 10)) ≡ true → rest_before (reader s v) b ≡ None
unfolding rest_before
rest_passed s v b h = ap (λ p. rest_if p s b) h

pub read_passed : (s : State) (v : Bool) (b : ℕ) → (v && (b == 10)) ≡ true → read (reader s v) b ≡ T.to s
unfolding read
read_passed s v b h = ap (λ p. byte_step p s b) h

pub rest_plain : (s : State) (v : Bool) (b : ℕ) → (v && (b == 10)) ≡ false → rest_before (reader s v) b ≡ rest_within 2 s (feed b)
unfolding rest_before
rest_plain s v b h = ap (λ p. rest_if p s b) h

pub read_plain : (s : State) (v : Bool) (b : ℕ) → (v && (b == 10)) ≡ false → read (reader s v) b ≡ whole_step s (feed b)
unfolding read
read_plain s v b h = ap (λ p. byte_step p s b) h

-- pieces

pub pieces_on : (m : State) (r : Reader) (bytes : List ℕ) (ts : List HtmlToken) (b : ℕ) (text : List ℕ) (x : Step) → rest_before r b ≡ None → read r b ≡ x →
    pieces_from m r bytes ts (b ∷ text) ≡ pieces_from m (reader x.next (b == 13)) (bytes ++ b ∷ []) (ts ++ x.emits) text
pieces_on m r bytes ts b text x e h =
    rw (e, pieces_from) (ap₂ (λ (y : State) us. pieces_from m (reader y (b == 13)) (bytes ++ b ∷ []) (ts ++ us) text) (ap (λ (y : Step). y.next) h)
    (append-nil (read r b).emits ∙ ap (λ (y : Step). y.emits) h))

pub pieces_before : (m : State) (r : Reader) (bytes : List ℕ) (ts : List HtmlToken) (b : ℕ) (text : List ℕ) (rest : Rest) → rest_before r b ≡ Some rest →
    pieces_from m r bytes ts (b ∷ text) ≡ piece m bytes (ts ++ rest.emits) ∷ pieces_at rest.state (b ∷ text)
pieces_before m r bytes ts b text rest e = rw (e, pieces_from) refl

-- how far a piece has been read

pub record IsScan (page : List ℕ) (start : ℕ) (m : Mode) (place : ℕ) (scan : Scan) : Type 0 where
  pub state : State
  pub tokens : List HtmlToken
  pub order : scan.word ≤ place
  pub later : start < place
  pub stage : IsStage (between page scan.word place) scan.stage state tokens
  pub plain : has_word scan.stage ≡ false → scan.word ≡ place
  pub returned : scan.after_return ≡ true → has_word scan.stage ≡ false
  pub reached : after (at (state_of m)) (between page start place) ≡ reader state scan.after_return
  pub told : emitted (at (state_of m)) (between page start place) ≡ tokens
  pub opened : OpensAtMostFirst (state_of m) (between page start place)
  pub begun : BegunBy m scan.stage scan.after_return (between page start place) (between page scan.word place)
  pub starts : StartsLast (at (state_of m)) (between page start place)
  pub closed : scan.after_return ≡ true → NoStart tokens
  pub pieces : pieces_at (state_of m) (drop start page) ≡ pieces_from (state_of m) (reader state scan.after_return) (between page start place) tokens (drop place page)

-- the first byte

pub record Firstly (x : Step) (c : Stage) : Type 0 where
  pub once : x.again ≡ false
  pub stage : IsStage [] c x.next x.emits
  pub plain : has_word c ≡ false

pick : (v : Bool) (x y : Step) (c d : Stage) → Firstly x c → Firstly y d → Firstly (if v then x else y) (if v then c else d)
pick true x y c d h k = h
pick false x y c d h k = k

text : (s : State) (m : Mode) (bytes : List ℕ) → s ≡ state_of m → IsSome bytes → Firstly (T.emitting bytes s) (M.whole_text m)
text s m bytes e h = record { once = refl; stage = (e, chars bytes h); plain = refl }

less : (r : T.Raw) (m : Mode) → IsRaw m → raw_of m ≡ r → Firstly (T.to (T.raw_less_than_sign r)) (stage.RawLessThan m)
less r m h f = record { once = refl; stage = (h, refl, ap T.raw_less_than_sign (sym f), refl); plain = refl }

referring : (s : State) (m : Mode) → s ≡ state_of m → Firstly (T.to (T.character_reference s)) (stage.Reference (place.Text m))
referring s m e = record { once = refl; stage = (s, e, refl, refl); plain = refl }

in_rcdata : (m : Mode) (n : List ℕ) (b : ℕ) → state_of m ≡ T.raw (T.rcdata n) → raw_of m ≡ T.rcdata n → Firstly (step (T.raw (T.rcdata n)) b) (M.in_rcdata m b)
in_rcdata m n b e f =
    pick (b == 38) _ _ _ _ (referring (T.raw (T.rcdata n)) m (sym e))
    (pick (b == 60) _ _ _ _ (less (T.rcdata n) m (e ∙ ap T.raw (sym f)) f) (text _ m (char_of b) (sym e) (char_some b)))

in_rawtext : (m : Mode) (n : List ℕ) (b : ℕ) → state_of m ≡ T.raw (T.rawtext n) → raw_of m ≡ T.rawtext n → Firstly (step (T.raw (T.rawtext n)) b) (M.in_rawtext m b)
in_rawtext m n b e f =
    pick (b == 60) _ _ _ _ (less (T.rawtext n) m (e ∙ ap T.raw (sym f)) f) (text _ m (char_of b) (sym e) (char_some b))

pub first_is : (m : Mode) (b : ℕ) → Firstly (step (state_of m) b) (M.first m b)
first_is mode.Data b =
    pick (b == 38) _ _ _ _ (referring T.data_state mode.Data refl)
    (pick (b == 60) _ _ _ _ (record { once = refl; stage = (refl, refl, refl); plain = refl }) (text T.data_state mode.Data (b ∷ []) refl tt))
first_is mode.Title b = in_rcdata mode.Title (codes "title") b refl refl
first_is mode.Textarea b = in_rcdata mode.Textarea (codes "textarea") b refl refl
first_is mode.ContextText b = in_rcdata mode.ContextText [] b refl refl
first_is mode.Style b = in_rawtext mode.Style (codes "style") b refl refl
first_is mode.Xmp b = in_rawtext mode.Xmp (codes "xmp") b refl refl
first_is mode.Iframe b = in_rawtext mode.Iframe (codes "iframe") b refl refl
first_is mode.Noembed b = in_rawtext mode.Noembed (codes "noembed") b refl refl
first_is mode.Noframes b = in_rawtext mode.Noframes (codes "noframes") b refl refl
first_is mode.Noscript b = in_rawtext mode.Noscript (codes "noscript") b refl refl
first_is mode.Script b = pick (b == 60) _ _ _ _ (less T.script_data mode.Script refl refl) (text (T.raw T.script_data) mode.Script (char_of b) refl (char_some b))
first_is mode.ScriptEscaped b =
    pick (b == 45) _ _ _ _ (text (T.raw T.script_data_escaped_dash) mode.ScriptEscapedDash (codes "-") refl tt)
    (pick (b == 60) _ _ _ _ (less T.script_data_escaped mode.ScriptEscaped refl refl) (text (T.raw T.script_data_escaped) mode.ScriptEscaped (char_of b) refl (char_some b)))
first_is mode.ScriptEscapedDash b =
    pick (b == 45) _ _ _ _ (text (T.raw T.script_data_escaped_dash_dash) mode.ScriptEscapedDashDash (codes "-") refl tt)
    (pick (b == 60) _ _ _ _ (less T.script_data_escaped mode.ScriptEscaped refl refl) (text (T.raw T.script_data_escaped) mode.ScriptEscaped (char_of b) refl (char_some b)))
first_is mode.ScriptEscapedDashDash b =
    pick (b == 45) _ _ _ _ (text (T.raw T.script_data_escaped_dash_dash) mode.ScriptEscapedDashDash (codes "-") refl tt)
    (pick (b == 60) _ _ _ _ (less T.script_data_escaped mode.ScriptEscaped refl refl)
    (pick (b == 62) _ _ _ _ (text (T.raw T.script_data) mode.Script (codes ">") refl tt) (text (T.raw T.script_data_escaped) mode.ScriptEscaped (char_of b) refl (char_some b))))
first_is mode.Plaintext b = text T.plaintext mode.Plaintext (char_of b) refl (char_some b)

pub scan_first : (page : List ℕ) (start : ℕ) (m : Mode) → start < length page → IsScan page start m (start + 1) (S.first_scan page start m)
scan_first page start m h =
    let b : ℕ = get_or page start 0 in
    let s : State = state_of m in
    let x : Step = step s (feed b) in
    let f = first_is m (feed b) in
    let rest : List ℕ = drop (start + 1) page in
    let is : read (at s) b ≡ x = read_plain s false b refl ∙ settled_at_once 3 x (feed b) f.once in
    let one : between page start (start + 1) ≡ b ∷ [] = between_more page start start (omega arith) h ∙ ap (λ (v : List ℕ). v ++ b ∷ []) (between_none page start) in
    record {
      state = x.next;
      tokens = x.emits;
      order = omega arith;
      later = omega arith;
      stage = subst (λ (w : List ℕ). IsStage w (M.first m (feed b)) x.next x.emits) (sym (between_none page (start + 1))) f.stage;
      plain = λ _. refl;
      returned = λ _. f.plain;
      reached = ap (after (at s)) one ∙ ap (λ (y : Step). reader y.next (b == 13)) is;
      told = ap (emitted (at s)) one ∙ append-nil (read (at s) b).emits ∙ ap (λ (y : Step). y.emits) is;
      opened = inl (ap (opens (at s)) one ∙ ap (λ v. v || false) (mode_opens_none m (feed b)));
      begun = subst₂ (BegunBy m (M.first m (feed b)) (b == 13)) (sym one) (sym (between_none page (start + 1))) (first_begun b m);
      starts = subst (StartsLast (at s)) (sym one) tt;
      closed = λ _. quiet_of x.emits (rest_quiet s (feed b) (rests m));
      pieces = ap (pieces_at s) (drop_more page start 0 h)
          ∙ ap₂ (λ (y : State) us. pieces_from s (reader y (b == 13)) (b ∷ []) us rest) (ap (λ (y : Step). y.next) is) (append-nil (read (at s) b).emits ∙ ap (λ (y : Step). y.emits) is)
          ∙ ap (λ v. pieces_from s (reader x.next (b == 13)) v x.emits rest) (sym one);
    }

-- the bytes after it

abbrev pub Follows : List ℕ → ℕ → Mode → ℕ → Scanned → Type 0
Follows page start m place (On scan) = IsScan page start m (place + 1) scan
Follows page start m place (Before k n) = IsFront page start m (record { kind = k; end = place; mode = n })

false_first : (v u : Bool) → (v && u) ≡ true → (v ≡ true) × (u ≡ true)
false_first true u h = (refl, h)
false_first false u h = absurd (true≢false (sym h))

module _ (page : List ℕ) (start : ℕ) (m : Mode) (place : ℕ) (scan : Scan) (h : IsScan page start m place scan) (inside : place < length page) where
  abbrev b : ℕ
  b = get_or page place 0

  abbrev rest : List ℕ
  rest = drop (place + 1) page

  abbrev w : List ℕ
  w = between page scan.word place

  abbrev o : State
  o = state_of m

  more : between page start (place + 1) ≡ between page start place ++ b ∷ []
  more = let l = h.later in between_more page start place (omega arith) inside

  front_is : pieces_at o (drop start page) ≡ pieces_from o (reader h.state scan.after_return) (between page start place) h.tokens (b ∷ rest)
  front_is = h.pieces ∙ ap (pieces_from o (reader h.state scan.after_return) (between page start place) h.tokens) (drop_more page place 0 inside)

  goes_on : (x : Step) → rest_before (reader h.state scan.after_return) b ≡ None → read (reader h.state scan.after_return) b ≡ x →
      pieces_at o (drop start page) ≡ pieces_from o (reader x.next (b == 13)) (between page start (place + 1)) (h.tokens ++ x.emits) rest
  goes_on x e k =
      front_is ∙ pieces_on o (reader h.state scan.after_return) (between page start place) h.tokens b rest x e k
      ∙ ap (λ v. pieces_from o (reader x.next (b == 13)) v (h.tokens ++ x.emits) rest) (sym more)

  abbrev bs : List ℕ
  bs = between page start place

  reached_on : (x : Step) → read (reader h.state scan.after_return) b ≡ x → after (at o) (between page start (place + 1)) ≡ reader x.next (b == 13)
  reached_on x k =
      ap (after (at o)) more ∙ after_append (at o) bs (b ∷ []) ∙ ap (λ (r : Reader). next r b) h.reached ∙ ap (λ (y : Step). reader y.next (b == 13)) k

  told_on : (x : Step) → read (reader h.state scan.after_return) b ≡ x → emitted (at o) (between page start (place + 1)) ≡ h.tokens ++ x.emits
  told_on x k =
      ap (emitted (at o)) more ∙ emitted_append (at o) bs (b ∷ []) ∙ ap₂ (λ ts (r : Reader). ts ++ emitted r (b ∷ [])) h.told h.reached
      ∙ ap (λ us. h.tokens ++ us) (append-nil (read (reader h.state scan.after_return) b).emits ∙ ap (λ (y : Step). y.emits) k)

  starts_on : NoStart h.tokens → StartsLast (at o) (between page start (place + 1))
  starts_on n = subst (StartsLast (at o)) (sym more) (starts_more (at o) bs b h.starts (subst NoStart (sym h.told) n))

  no_opening : (r : Reader) → r ≡ reader h.state scan.after_return → opens_cdata h.state (feed b) ≡ false → opens r (b ∷ []) ≡ false
  no_opening r e n = ap (λ (x : Reader). opens x (b ∷ [])) e ∙ ap (λ v. v || false) n

  opened_at : opens_cdata h.state (feed b) ≡ true → OpensAtMostFirst o (bs ++ b ∷ [])
  opened_at y =
      let k = opening w scan.stage h.state h.tokens (feed b) h.stage y in
      let p = early_begun m scan.stage scan.after_return bs w h.begun (ap is_early k.stage) in
      let all : bs ≡ 60 ∷ 33 ∷ [] = p.1 ∙ ap (λ v. 60 ∷ v) k.word in
      let is : b ≡ 91 = sym (feed_plain b (ap (λ c. c == 10) k.byte)) ∙ k.byte in
      elim h.opened [
        | inl z ↦ inr ([], ap state_of p.0, ap (λ v. v ++ b ∷ []) all ∙ ap (λ c. 60 ∷ 33 ∷ c ∷ []) is, refl)
        | inr q ↦ (let never : 60 ∷ 33 ∷ [] ≡ 60 ∷ 33 ∷ 91 ∷ q.0 = sym all ∙ q.2 in cc)
      ]

  opened_still : opens_cdata h.state (feed b) ≡ false → OpensAtMostFirst o bs → OpensAtMostFirst o (bs ++ b ∷ [])
  opened_still n (inl z) = inl (opens_append (at o) bs (b ∷ []) ∙ ap₂ ◌||◌ z (no_opening (after (at o) bs) h.reached n))
  opened_still n (inr q) =
      let r : Reader = after (at T.data_state) (60 ∷ 33 ∷ 91 ∷ []) in
      inr (
        q.0 ++ b ∷ [],
        q.1,
        ap (λ v. v ++ b ∷ []) q.2,
        opens_append r q.0 (b ∷ []) ∙ ap₂ ◌||◌ q.3
            (no_opening (after r q.0) (sym (ap₂ (λ (x : State) v. after (at x) v) q.1 q.2) ∙ h.reached) n),
      )

  opened_on : OpensAtMostFirst o (between page start (place + 1))
  opened_on = subst (OpensAtMostFirst o) (sym more) (elim (cases_Bool (opens_cdata h.state (feed b))) [
    | inl y ↦ opened_at y
    | inr n ↦ opened_still n h.opened
  ])

  passed : (scan.after_return && (b == 10)) ≡ true → IsScan page start m (place + 1) (record { stage = scan.stage; after_return = b == 13; word = place + 1 })
  passed p =
      let q = false_first scan.after_return (b == 10) p in
      let plain = h.returned q.0 in
      let empty : w ≡ [] = ap (λ a. between page a place) (h.plain plain) ∙ between_none page place in
      let l = h.later in
      let no : (b == 13) ≡ false = ap (λ c. c == 13) (eqb-true b 10 q.1) in
      record {
        state = h.state;
        tokens = h.tokens;
        order = omega arith;
        later = omega arith;
        stage = subst (λ (v : List ℕ). IsStage v scan.stage h.state h.tokens) (empty ∙ sym (between_none page (place + 1))) h.stage;
        plain = λ _. refl;
        returned = λ r. absurd (true≢false (sym r ∙ no));
        reached = reached_on (T.to h.state) (read_passed h.state scan.after_return b p);
        told = told_on (T.to h.state) (read_passed h.state scan.after_return b p) ∙ append-nil h.tokens;
        opened = opened_on;
        begun = begun_passed m scan.stage scan.after_return bs w h.begun q.0 plain (b == 13) (between page start (place + 1)) (between page (place + 1) (place + 1));
        starts = starts_on (h.closed q.0);
        closed = λ r. absurd (true≢false (sym r ∙ no));
        pieces = goes_on (T.to h.state) (rest_passed h.state scan.after_return b p) (read_passed h.state scan.after_return b p)
            ∙ ap (λ us. pieces_from o (reader h.state (b == 13)) (between page start (place + 1)) us rest) (append-nil h.tokens);
      }

  no_feed : (c : Stage) → M.turn scan.stage w (feed b) ≡ Goes c → (feed b == 10) ≡ true → has_word c ≡ false
  no_feed c e y =
      sym (ap keeps_word e) ∙ ap (λ x. keeps_word (M.turn scan.stage w x)) (eqb-true (feed b) 10 y) ∙ ends_word scan.stage w

  fed : (b == 13) ≡ true → (feed b == 10) ≡ true
  fed y = rw y refl

  word_is : (c : Stage) → M.turn scan.stage w (feed b) ≡ Goes c → (v : Bool) → has_word c ≡ v →
      (if v then w ++ feed b ∷ [] else []) ≡ between page (if v then scan.word else place + 1) (place + 1)
  word_is c e true k = elim (cases_Bool (feed b == 10)) [
    | inl y ↦ absurd (true≢false (sym k ∙ no_feed c e y))
    | inr n ↦ ap (λ x. w ++ x ∷ []) (feed_plain b n) ∙ sym (between_more page scan.word place h.order inside)
  ]
  word_is c e false k = sym (between_none page (place + 1))

  word_order : (v : Bool) → (if v then scan.word else place + 1) ≤ place + 1
  word_order true = let k = h.order in omega arith
  word_order false = omega arith

  word_plain : (v : Bool) → v ≡ false → (if v then scan.word else place + 1) ≡ place + 1
  word_plain true k = absurd (true≢false k)
  word_plain false k = refl

  begun_on : (c : Stage) → M.turn scan.stage w (feed b) ≡ Goes c →
      BegunBy m c (b == 13) (between page start (place + 1)) (between page (if has_word c then scan.word else place + 1) (place + 1))
  begun_on stage.TagOpen e = absurd (no_open scan.stage w (feed b) e)
  begun_on stage.Declaration e =
      let p = early_begun m scan.stage scan.after_return bs w h.begun (early_before scan.stage stage.Declaration w (feed b) e refl) in
      (p.0, more ∙ ap (λ v. v ++ b ∷ []) p.1 ∙ ap (λ v. 60 ∷ v) (sym (between_more page scan.word place h.order inside)))
  begun_on _ e = tt

  no_start : (c : Stage) → M.turn scan.stage w (feed b) ≡ Goes c → (feed b == 10) ≡ true → starts_stage c ≡ false
  no_start c e y =
      sym (ap turn_starts e) ∙ ap (λ x. turn_starts (M.turn scan.stage w x)) (eqb-true (feed b) 10 y) ∙ feed_starts scan.stage w

  scan_on : (scan.after_return && (b == 10)) ≡ false → (c : Stage) → M.turn scan.stage w (feed b) ≡ Goes c → IsBegun scan.stage →
      IsScan page start m (place + 1) (record { stage = c; after_return = b == 13; word = if has_word c then scan.word else place + 1 })
  scan_on p c e g =
      let x : Step = whole_step h.state (feed b) in
      let t = turned (feed b) w 2 h.tokens h.state (Goes c) (no_rest w scan.stage h.state h.tokens h.stage g)
      (subst (Met (feed b) w 2 h.tokens (step h.state (feed b))) e (met (feed b) w scan.stage h.state h.tokens h.stage g)) in
      let l = h.later in
      record {
        state = x.next;
        tokens = h.tokens ++ x.emits;
        order = word_order (has_word c);
        later = omega arith;
        stage = subst (λ (v : List ℕ). IsStage v c x.next (h.tokens ++ x.emits)) (word_is c e (has_word c) refl) t.1;
        plain = word_plain (has_word c);
        returned = λ r. no_feed c e (fed r);
        reached = reached_on x (read_plain h.state scan.after_return b p);
        told = told_on x (read_plain h.state scan.after_return b p);
        opened = opened_on;
        begun = begun_on c e;
        starts = starts_on (stage_quiet w scan.stage h.state h.tokens h.stage (begun_starts scan.stage g));
        closed = λ r. stage_quiet (next_word c w (feed b)) c x.next (h.tokens ++ x.emits) t.1 (no_start c e (fed r));
        pieces = goes_on x (rest_plain h.state scan.after_return b p ∙ t.0) (read_plain h.state scan.after_return b p);
      }

  alone_here : (n : Mode) (es : List HtmlToken) → rest_before (reader h.state scan.after_return) b ≡ Some (record { state = state_of n; emits = es }) → at_end h.state ≡ es →
      runs (pieces_at o bs) ≡ piece o bs (h.tokens ++ es) ∷ []
  alone_here n es e p =
      let l = h.later in
      let some : 0 < length bs = let k = between_length page start place (omega arith) (omega arith) in omega arith in
      let ts : List HtmlToken = h.tokens ++ es in
      let all : pieces_at o (bs ++ drop place page) ≡ piece o bs ts ∷ pieces_at (state_of n) (b ∷ rest) =
      ap (pieces_at o) (cut page start place (omega arith)) ∙ front_is
      ∙ pieces_before o (reader h.state scan.after_return) bs h.tokens b rest (record { state = state_of n; emits = es }) e in
      let told : tokens_of (at o) bs ≡ ts =
      sym (tokens_end (at o) bs) ∙ ap₂ (λ us (r : Reader). us ++ at_end r.state) h.told h.reached ∙ ap (λ us. h.tokens ++ us) p in
      ap runs (first_alone o bs (drop place page) (piece o bs ts) (pieces_at (state_of n) (b ∷ rest)) all (le_refl (length bs)) some)
      ∙ ap (λ us. piece o bs us ∷ []) told

  ends_here : (k : TokenKind) (n : Mode) (es : List HtmlToken) → rest_before (reader h.state scan.after_return) b ≡ Some (record { state = state_of n; emits = es }) →
      IsKind k (h.tokens ++ es) → at_end h.state ≡ es → IsFront page start m (record { kind = k; end = place; mode = n })
  ends_here k n es e i p =
      let l = h.later in
      record {
        tokens = h.tokens ++ es;
        kind = i;
        order = l;
        within = omega arith;
        read = ap runs (front_is ∙ pieces_before o (reader h.state scan.after_return) (between page start place) h.tokens b rest (record { state = state_of n; emits = es }) e
            ∙ ap (λ v. piece o (between page start place) (h.tokens ++ es) ∷ pieces_at (state_of n) v) (sym (drop_more page place 0 inside)));
        alone = alone_here n es e p;
        stands = record {
          pending = es;
          told = ap (λ ts. ts ++ es) (sym h.told);
          ends = subst₂ (λ (r : Reader) t. Pends r t (state_of n) es) (sym h.reached) (sym (drop_more page place 0 inside)) e;
          opens_first = h.opened;
          starts_last = h.starts;
        };
      }

  scan_ends : (scan.after_return && (b == 10)) ≡ false → (k : TokenKind) (n : Mode) → M.turn scan.stage w (feed b) ≡ Ends k n →
      IsFront page start m (record { kind = k; end = place; mode = n })
  scan_ends p k n e = elim (begun_or scan.stage) [
    | inl g ↦ (
        let t = turned (feed b) w 2 h.tokens h.state (Ends k n) (no_rest w scan.stage h.state h.tokens h.stage g)
        (subst (Met (feed b) w 2 h.tokens (step h.state (feed b))) e (met (feed b) w scan.stage h.state h.tokens h.stage g)) in
        ends_here k n t.0 (rest_plain h.state scan.after_return b p ∙ t.1) t.2
        (subst (Holds (feed b) h.state) e (pends (feed b) scan.stage w h.state h.tokens h.stage g) (state_of n) t.0 t.1))
    | inr q ↦ (
        let same : Ends q.0 q.1 ≡ Ends k n = sym (ap (λ (c : Stage). M.turn c w (feed b)) q.2) ∙ e in
        let sk : q.0 ≡ k = cc in
        let sn : q.1 ≡ n = cc in
        let st : (h.state ≡ state_of q.1) × IsKind q.0 h.tokens = subst (λ (c : Stage). IsStage w c h.state h.tokens) q.2 h.stage in
        let here : h.state ≡ state_of n = st.0 ∙ ap state_of sn in
        let r : is_at_rest h.state ≡ true = ap is_at_rest here ∙ rests n in
        ends_here k n []
        (rest_plain h.state scan.after_return b p ∙ rest_here (feed b) w 2 h.state r ∙ ap (λ (x : State). Some (record { state = x; emits = [] })) here)
        (subst (IsKind k) (sym (append-nil h.tokens)) (subst (λ (j : TokenKind). IsKind j h.tokens) sk st.1))
        (rest_end h.state r))
  ]

  whole_never : (c d : Stage) → M.turn c w (feed b) ≡ Goes d → IsBegun c
  whole_never (stage.Whole k n) d e = cc
  whole_never _ d e = tt

  by_turn : (scan.after_return && (b == 10)) ≡ false → (t : Turn) → M.turn scan.stage w (feed b) ≡ t → Follows page start m place (S.after_turn t (b == 13) scan.word place)
  by_turn p (Goes c) e = scan_on p c e (whole_never scan.stage c e)
  by_turn p (Ends k n) e = scan_ends p k n e

  pub scan_next : Follows page start m place (S.next_scan scan page place)
  scan_next =
      cond_both (scan.after_return && (b == 10)) _ _ (Follows page start m place) passed
      (λ p. by_turn p (M.turn scan.stage w (feed b)) refl)
