-- A piece that the end of a page ends.
use Rattle.std.proofs.Common.{◌≡◌, ◌≤◌, ◌==◌, ℕ, false, inl, inr, List, [], ◌∷◌, ◌++◌, length, drop, codes, refl, ap, ap₂, sym, subst, ◌∙◌, arith, le_refl, append-nil}
use Rattle.std.proofs.lemmas.Bool.{cases_Bool, eqb-false, eqb-true}
use Rattle.std.proofs.lemmas.List.{drop_all}
use Rattle.tl_html_spec.specs.References.{named_value, number_value}
use Rattle.tl_html_spec.specs.HtmlTokenizer as T
use Rattle.tl_html_spec.specs.HtmlTokenizer.{HtmlToken, Character, State, at_end}
use Rattle.tl_html_spec.specs.Pieces.{piece, pieces_from, runs, with_piece}
use Rattle.tl_html_spec.specs.Sound.{IsSome}
use Rattle.tl_html_spec.specs.Reader.{Reader, after, at, emitted}
use Rattle.tl_html_tokens.specs.Ends.{OpensAtMostFirst, Pends, StartsLast}
use Rattle.tl_html_tokens.specs.Fronts.{IsFront, pieces_at}
use Rattle.tl_html_tokens.specs.Kinds.{IsKind}
use Rattle.tl_html_tokens.specs.Modes.{state_of}
use Rattle.tl_html_tokens.specs.Inner.Stages.{kind_at_end, place_at_end}
use Rattle.tl_html_tokens.specs.declared.front.Scan.{Scan}
use Rattle.tl_html_tokens.specs.declared.mode.Mode.{Mode}
use Rattle.tl_html_tokens.specs.declared.mode.Mode.TheVariants as mode
use Rattle.tl_html_tokens.specs.declared.stage.TokenKind.{TokenKind}
use Rattle.tl_html_tokens.specs.declared.stage.TokenKind.TheVariants as kind
use Rattle.tl_html_tokens.specs.declared.stage.Quote.{Quote}
use Rattle.tl_html_tokens.specs.declared.stage.Quote.TheVariants as quote
use Rattle.tl_html_tokens.specs.declared.stage.Place.{Place}
use Rattle.tl_html_tokens.specs.declared.stage.Place.TheVariants as place
use Rattle.tl_html_tokens.specs.declared.stage.Stage.{Stage}
use Rattle.tl_html_tokens.specs.declared.stage.Stage.TheVariants as stage
use Rattle.tl_html_tokens.proofs.Nonempty.{named_value_some, number_value_some}
use Rattle.tl_html_tokens.proofs.Places.{between, cut}
use Rattle.tl_html_tokens.proofs.Reading.{IsScan, reader, scan_next}
use Rattle.tl_html_tokens.proofs.Steps.{IsPlace, IsStage, IsValue, chars, flushed_text}

pub mode_ends : (m : Mode) → at_end (state_of m) ≡ []
mode_ends mode.Data = refl
mode_ends mode.Title = refl
mode_ends mode.Textarea = refl
mode_ends mode.ContextText = refl
mode_ends mode.Style = refl
mode_ends mode.Xmp = refl
mode_ends mode.Iframe = refl
mode_ends mode.Noembed = refl
mode_ends mode.Noframes = refl
mode_ends mode.Noscript = refl
mode_ends mode.Script = refl
mode_ends mode.ScriptEscaped = refl
mode_ends mode.ScriptEscapedDash = refl
mode_ends mode.ScriptEscapedDashDash = refl
mode_ends mode.Plaintext = refl

value_ends : (q : Quote) (o : T.OpenTag) (key v : List ℕ) (s : State) → IsValue q o key v s → at_end s ≡ []
value_ends quote.Double o key v s e = ap at_end e
value_ends quote.Single o key v s e = ap at_end e
value_ends quote.Absent o key v s e = ap at_end e

flush_ends : (p : Place) (r : State) (bytes : List ℕ) → IsPlace p r → IsSome bytes → IsKind (place_at_end p) (T.flushed r bytes false).emits
flush_ends (place.Text m) r bytes h k =
    subst (λ (x : T.Step). IsKind kind.Text x.emits) (sym (ap (λ s. T.flushed s bytes false) h ∙ flushed_text m bytes false)) (chars bytes k)
flush_ends (place.Value quote.Double tag) r bytes (o, key, v, h, e) k = ap (λ s. (T.flushed s bytes false).emits) e
flush_ends (place.Value quote.Single tag) r bytes (o, key, v, h, e) k = ap (λ s. (T.flushed s bytes false).emits) e
flush_ends (place.Value quote.Absent tag) r bytes (o, key, v, h, e) k = ap (λ s. (T.flushed s bytes false).emits) e

-- with nothing emitted before
alone : (k : TokenKind) (s r : State) (ts : List HtmlToken) → s ≡ r → ts ≡ [] → IsKind k (at_end r) → IsKind k (ts ++ at_end s)
alone k s r ts e t h = subst (IsKind k) (ap₂ (λ (us : List HtmlToken) (x : State). us ++ at_end x) (sym t) (sym e)) h

-- with characters before
after_chars : (s r : State) (ts : List HtmlToken) → s ≡ r → at_end r ≡ [] → IsKind kind.Text ts → IsKind kind.Text (ts ++ at_end s)
after_chars s r ts e n h = subst (IsKind kind.Text) (sym (append-nil ts) ∙ ap (λ us. ts ++ us) (sym (ap at_end e ∙ n))) h

pub end_kind : (w : List ℕ) (c : Stage) (s : State) (ts : List HtmlToken) → IsStage w c s ts → IsKind (kind_at_end c) (ts ++ at_end s)
end_kind w (stage.Whole k m) s ts (e, h) = subst (IsKind k) (sym (append-nil ts) ∙ ap (λ us. ts ++ us) (sym (ap at_end e ∙ mode_ends m))) h
end_kind w (stage.Reference p) s ts (r, h, e, t) = alone (place_at_end p) s _ ts e t (flush_ends p r (codes "&") h tt)
end_kind w (stage.NamedReference p) s ts (r, buffer, some, h, e, t) =
    alone (place_at_end p) s _ ts e t (flush_ends p r (named_value (T.is_value r) buffer []) h (named_value_some (T.is_value r) buffer []))
end_kind w (stage.NumericReference p) s ts (r, h, e, t) = alone (place_at_end p) s _ ts e t (flush_ends p r (codes "&#") h tt)
end_kind w (stage.HexadecimalStart p) s ts (r, x, h, e, t) = alone (place_at_end p) s _ ts e t (flush_ends p r (codes "&#" ++ x ∷ []) h tt)
end_kind w (stage.DecimalStart p) s ts (r, h, e, t) = alone (place_at_end p) s _ ts e t (flush_ends p r (codes "&#") h tt)
end_kind w (stage.Hexadecimal p) s ts (r, code, h, e, t) = alone (place_at_end p) s _ ts e t (flush_ends p r (number_value code) h (number_value_some code))
end_kind w (stage.Decimal p) s ts (r, code, h, e, t) = alone (place_at_end p) s _ ts e t (flush_ends p r (number_value code) h (number_value_some code))
end_kind w stage.TagOpen s ts (x, e, t) = alone kind.Text s _ ts e t refl
end_kind w stage.EndTagOpen s ts (x, e, t) = alone kind.Text s _ ts e t refl
end_kind w (stage.TagName is_end) s ts (e, t) = alone kind.Nothing s _ ts e t refl
end_kind w (stage.RawLessThan m) s ts (h, x, e, t) = alone kind.Text s _ ts e t refl
end_kind w (stage.RawEndTagOpen m) s ts (h, x, e, t) = alone kind.Text s _ ts e t refl
end_kind w (stage.RawEndTagName m) s ts (h, e, t) = alone kind.Text s _ ts e t (chars (codes "</" ++ w) tt)
end_kind w stage.EscapeStart s ts (e, t) = after_chars s _ ts e refl t
end_kind w stage.EscapeStartDash s ts (e, t) = after_chars s _ ts e refl t
end_kind w stage.DoubleEscapeStart s ts (e, t) = after_chars s _ ts e refl t
end_kind w stage.DoubleEscaped s ts (e, t) = after_chars s _ ts e refl t
end_kind w stage.DoubleEscapedDash s ts (e, t) = after_chars s _ ts e refl t
end_kind w stage.DoubleEscapedDashDash s ts (e, t) = after_chars s _ ts e refl t
end_kind w stage.DoubleEscapedLessThan s ts (x, e, t) = after_chars s _ ts e refl t
end_kind w stage.DoubleEscapeEnd s ts (v, x, e, t) = after_chars s _ ts e refl t
end_kind w (stage.BeforeKey tag) s ts (o, h, e, t) = alone kind.Nothing s _ ts e t refl
end_kind w (stage.Key tag) s ts (o, key, h, e, t) = alone kind.Nothing s _ ts e t refl
end_kind w (stage.AfterKey tag) s ts (o, key, h, e, t) = alone kind.Nothing s _ ts e t refl
end_kind w (stage.BeforeValue tag) s ts (o, key, h, e, t) = alone kind.Nothing s _ ts e t refl
end_kind w (stage.Value q tag) s ts ((o, key, v, h, e), t) = alone kind.Nothing s s ts refl t (value_ends q o key v s e)
end_kind w (stage.AfterValue tag) s ts (o, h, e, t) = alone kind.Nothing s _ ts e t refl
end_kind w (stage.SelfClosing tag) s ts (o, h, e, t) = alone kind.Nothing s _ ts e t refl
end_kind w stage.BogusComment s ts (bytes, e, t) = alone kind.Comment s _ ts e t tt
end_kind w stage.Declaration s ts (v, x, e, t) = alone kind.Comment s _ ts e t tt
end_kind w stage.CommentStart s ts (e, t) = alone kind.Comment s _ ts e t tt
end_kind w stage.CommentStartDash s ts (e, t) = alone kind.Comment s _ ts e t tt
end_kind w stage.Comment s ts (bytes, e, t) = alone kind.Comment s _ ts e t tt
end_kind w stage.CommentLessThan s ts (bytes, e, t) = alone kind.Comment s _ ts e t tt
end_kind w stage.CommentBang s ts (bytes, e, t) = alone kind.Comment s _ ts e t tt
end_kind w stage.CommentBangDash s ts (bytes, e, t) = alone kind.Comment s _ ts e t tt
end_kind w stage.CommentBangDashDash s ts (bytes, e, t) = alone kind.Comment s _ ts e t tt
end_kind w stage.CommentEndDash s ts (bytes, e, t) = alone kind.Comment s _ ts e t tt
end_kind w stage.CommentEnd s ts (bytes, e, t) = alone kind.Comment s _ ts e t tt
end_kind w stage.CommentEndBang s ts (bytes, e, t) = alone kind.Comment s _ ts e t tt
end_kind w stage.Doctype s ts (e, t) = alone kind.Doctype s _ ts e t tt

pub scan_end : (page : List ℕ) (start : ℕ) (m n : Mode) (place : ℕ) (scan : Scan) → IsScan page start m place scan → place ≡ length page →
    IsFront page start m (record { kind = kind_at_end scan.stage; end = length page; mode = n })
scan_end page start m n place scan h e =
    let l = h.later in
    let none : (k : ℕ) → k ≡ length page → drop k page ≡ [] = λ k q. drop_all k page (omega arith) in
    let o : State = state_of m in
    let last = none (length page) refl in
    let whole : between page start (length page) ≡ drop start page =
    sym (append-nil (between page start (length page))) ∙ ap (λ v. between page start (length page) ++ v) (sym last) ∙ cut page start (length page) (omega arith) in
    record {
      tokens = h.tokens ++ at_end h.state;
      kind = end_kind (between page scan.word place) scan.stage h.state h.tokens h.stage;
      order = omega arith;
      within = le_refl (length page);
      read = ap runs (h.pieces ∙ ap (pieces_from o (reader h.state scan.after_return) (between page start place) h.tokens) (none place e))
          ∙ ap₂ (λ k v. with_piece (piece o (between page start k) (h.tokens ++ at_end h.state)) (runs (pieces_at (state_of n) v))) e (sym (none (length page) refl));
      alone = ap (λ v. runs (pieces_at o v)) whole
          ∙ ap runs (h.pieces ∙ ap (pieces_from o (reader h.state scan.after_return) (between page start place) h.tokens) (none place e))
          ∙ ap (λ k. piece o (between page start k) (h.tokens ++ at_end h.state) ∷ []) e;
      stands = record {
        pending = at_end h.state;
        told = ap (λ ts. ts ++ at_end h.state) (sym h.told ∙ ap (λ k. emitted (at o) (between page start k)) e);
        ends = subst (λ t. Pends (after (at o) (between page start (length page))) t (state_of n) (at_end h.state)) (sym (none (length page) refl))
            (sym (ap (λ (r : Reader). at_end r.state) (ap (λ k. after (at o) (between page start k)) (sym e) ∙ h.reached)));
        opens_first = subst (λ k. OpensAtMostFirst o (between page start k)) e h.opened;
        starts_last = subst (λ k. StartsLast (at o) (between page start k)) e h.starts;
      };
    }

-- a piece that is whole
pub whole_end : (page : List ℕ) (start : ℕ) (m n : Mode) (k : TokenKind) (place : ℕ) (scan : Scan) → IsScan page start m place scan → scan.stage ≡ stage.Whole k n → scan.after_return ≡ false →
    place ≤ length page → IsFront page start m (record { kind = k; end = place; mode = n })
whole_end page start m n k place scan h e r l =
    let same : scan ≡ (record { stage = stage.Whole k n; after_return = false; word = scan.word }) = ap₂ (λ (c : Stage) v. record { stage = c; after_return = v; word = scan.word }) e r in
    let whole : IsScan page start m place (record { stage = stage.Whole k n; after_return = false; word = scan.word }) = subst (IsScan page start m place) same h in
    elim (cases_Bool (place == length page)) [
      | inl y ↦ (
          let last = eqb-true place (length page) y in
          subst (λ p. IsFront page start m (record { kind = k; end = p; mode = n })) (sym last) (scan_end page start m n place (record { stage = stage.Whole k n; after_return = false; word = scan.word }) whole last))
      | inr y ↦ scan_next page start m place (record { stage = stage.Whole k n; after_return = false; word = scan.word }) whole (omega (arith, eqb-false place (length page) y))
    ]
