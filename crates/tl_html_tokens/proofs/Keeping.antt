-- What a piece has read so far is kept by each byte, and is what the piece says at the end of the page.
use Rattle.std.proofs.Common.{◌≡◌, ◌==◌, ℕ, true, List, [], ◌∷◌, ◌++◌, drop, map, codes, inl, inr, refl, ap, ap₂, sym, subst, ◌∙◌, true≢false, append-nil}
use Rattle.std.specs.List.{list_all}
use Rattle.tl_html_spec.specs.HtmlTokenizer as T
use Rattle.tl_html_spec.specs.HtmlTokenizer.{HtmlToken, Character, CommentToken, State, at_end}
use Rattle.tl_html_tokens.specs.Characters.{without_nul}
use Rattle.tl_html_tokens.specs.Comments.{data_of}
use Rattle.tl_html_tokens.specs.Inner.Machine as M
use Rattle.tl_html_tokens.specs.Inner.Stages.{kind_at_end}
use Rattle.tl_html_tokens.specs.declared.mode.Mode.{Mode}
use Rattle.tl_html_tokens.specs.declared.stage.TokenKind.TheVariants as kind
use Rattle.tl_html_tokens.specs.declared.stage.Place.TheVariants as place
use Rattle.tl_html_tokens.specs.declared.stage.Stage.{Stage}
use Rattle.tl_html_tokens.specs.declared.stage.Stage.TheVariants as stage
use Rattle.tl_html_tokens.specs.declared.stage.Turn.{Turn}
use Rattle.tl_html_tokens.proofs.CommentStages.{clean_stays, comment_kept, no_opener}
use Rattle.tl_html_tokens.proofs.Content.{BeginsDoctype, BeginsLess, Content, choose, doctype_more, InScript, IsNoOpener, IsText, is_clean, Kept, Says, less_text, name_text, opener, ordinary_text}
use Rattle.tl_html_tokens.proofs.Ending.{mode_ends}
use Rattle.tl_html_tokens.proofs.Endings.{inside_bang, inside_dash, inside_two}
use Rattle.tl_html_tokens.proofs.Markup.{kept_markup}
use Rattle.tl_html_tokens.proofs.Steps.{IsBegun, IsStage}
use Rattle.tl_html_tokens.proofs.TextStages as X

module _ (m : Mode) (b : ℕ) (z w : List ℕ) where
  moved : (y v : List ℕ) (s u : State) (ts : List HtmlToken) (o : Turn) → z ≡ y → w ≡ v → s ≡ u → ts ≡ [] → Kept m b y v u [] o → Kept m b z w s ts o
  moved y v s u ts o ez ew es et h =
      subst (λ x. Kept m b x w s ts o) (sym ez)
      (subst (λ x. Kept m b y x s ts o) (sym ew) (subst (λ (x : State). Kept m b y v x ts o) (sym es) (subst (λ us. Kept m b y v u us o) (sym et) h)))

  moved_on : (s u : State) (ts : List HtmlToken) (o : Turn) → s ≡ u → Kept m b z w u ts o → Kept m b z w s ts o
  moved_on s u ts o e h = subst (λ (x : State). Kept m b z w x ts o) (sym e) h

  -- a doctype stays one
  doctype_kept : (s : State) (ts : List HtmlToken) → BeginsDoctype z → Kept m b z w s ts (M.doctype b)
  doctype_kept s ts h =
      choose m b z w s ts (b == 62) _ _ (λ _. (doctype_more z (b ∷ []) h, λ y. absurd (true≢false (sym y)))) (λ _. doctype_more z (b ∷ []) h)

  pub kept : (c : Stage) (s : State) (ts : List HtmlToken) → IsStage w c s ts → IsBegun c → Content m c z w s ts → Kept m b z w s ts (M.turn c w b)
  kept (stage.Whole k n) s ts i g h = absurd g
  kept (stage.Reference (place.Text n)) s ts i g h = X.refers_kept m b z w s ts n h
  kept (stage.NamedReference (place.Text n)) s ts i g h = X.named_kept m b z w s ts n h
  kept (stage.NumericReference (place.Text n)) s ts i g h = X.numeric_kept m b z w s ts n h
  kept (stage.HexadecimalStart (place.Text n)) s ts i g h = X.hexadecimal_start_kept m b z w s ts n h
  kept (stage.DecimalStart (place.Text n)) s ts i g h = X.decimal_start_kept m b z w s ts n h
  kept (stage.Hexadecimal (place.Text n)) s ts i g h = X.hexadecimal_kept m b z w s ts n h
  kept (stage.Decimal (place.Text n)) s ts i g h = X.decimal_kept m b z w s ts n h
  kept stage.TagOpen s ts (x, e, t) g h = moved (60 ∷ []) [] s T.tag_open ts _ h.1 x e t (X.tag_open_kept m b h.0)
  kept stage.EndTagOpen s ts (x, e, t) g h = moved (60 ∷ 47 ∷ []) [] s T.end_tag_open ts _ h.1 x e t (X.end_tag_open_kept m b)
  kept (stage.RawLessThan n) s ts (r, x, e, t) g h = moved (60 ∷ []) [] s _ ts _ h.1 x e t (X.raw_less_kept m b n h.0)
  kept (stage.RawEndTagOpen n) s ts (r, x, e, t) g h = moved (60 ∷ 47 ∷ []) [] s _ ts _ h.1 x e t (X.raw_open_kept m b n h.0)
  kept (stage.RawEndTagName n) s ts (r, e, t) g h = moved (60 ∷ 47 ∷ w) w s _ ts _ h.1 refl e t (X.raw_name_kept m b n w h.0 h.2)
  kept stage.EscapeStart s ts (e, t) g h = moved_on s _ ts _ e (X.escape_start_kept m b z w ts h)
  kept stage.EscapeStartDash s ts (e, t) g h = moved_on s _ ts _ e (X.escape_start_dash_kept m b z w ts h)
  kept stage.DoubleEscapeStart s ts (e, t) g h = moved_on s _ ts _ e (X.double_start_kept m b z w ts h)
  kept stage.DoubleEscaped s ts (e, t) g h = moved_on s _ ts _ e (X.double_kept m b z w ts h)
  kept stage.DoubleEscapedDash s ts (e, t) g h = moved_on s _ ts _ e (X.dash_kept m b z w ts h)
  kept stage.DoubleEscapedDashDash s ts (e, t) g h = moved_on s _ ts _ e (X.dash_dash_kept m b z w ts h)
  kept stage.DoubleEscapedLessThan s ts (x, e, t) g h = moved_on s _ ts _ e (X.double_less_kept m b z w ts h)
  kept stage.DoubleEscapeEnd s ts (v, x, e, t) g h =
      subst (λ (u : List ℕ). Kept m b z w s ts (M.double_escape_end u b)) (sym (ap (drop 1) x)) (moved_on s _ ts _ e (X.double_end_kept m b z w v ts h))
  kept stage.BogusComment s ts i g h = comment_kept m b z w stage.BogusComment s ts refl i.2 i h
  kept stage.Declaration s ts i g h = comment_kept m b z w stage.Declaration s ts refl i.3 i h
  kept stage.CommentStart s ts i g h = comment_kept m b z w stage.CommentStart s ts refl i.1 i h
  kept stage.CommentStartDash s ts i g h = comment_kept m b z w stage.CommentStartDash s ts refl i.1 i h
  kept stage.Comment s ts i g h = comment_kept m b z w stage.Comment s ts refl i.2 i h
  kept stage.CommentLessThan s ts i g h = comment_kept m b z w stage.CommentLessThan s ts refl i.2 i h
  kept stage.CommentBang s ts i g h = comment_kept m b z w stage.CommentBang s ts refl i.2 i h
  kept stage.CommentBangDash s ts i g h = comment_kept m b z w stage.CommentBangDash s ts refl i.2 i h
  kept stage.CommentBangDashDash s ts i g h = comment_kept m b z w stage.CommentBangDashDash s ts refl i.2 i h
  kept stage.CommentEndDash s ts i g h = comment_kept m b z w stage.CommentEndDash s ts refl i.2 i h
  kept stage.CommentEnd s ts i g h = comment_kept m b z w stage.CommentEnd s ts refl i.2 i h
  kept stage.CommentEndBang s ts i g h = comment_kept m b z w stage.CommentEndBang s ts refl i.2 i h
  kept (stage.Reference (place.Value q tag)) s ts i g h = kept_markup m b (stage.Reference (place.Value q tag)) z w s ts refl h
  kept (stage.NamedReference (place.Value q tag)) s ts i g h = kept_markup m b (stage.NamedReference (place.Value q tag)) z w s ts refl h
  kept (stage.NumericReference (place.Value q tag)) s ts i g h = kept_markup m b (stage.NumericReference (place.Value q tag)) z w s ts refl h
  kept (stage.HexadecimalStart (place.Value q tag)) s ts i g h = kept_markup m b (stage.HexadecimalStart (place.Value q tag)) z w s ts refl h
  kept (stage.DecimalStart (place.Value q tag)) s ts i g h = kept_markup m b (stage.DecimalStart (place.Value q tag)) z w s ts refl h
  kept (stage.Hexadecimal (place.Value q tag)) s ts i g h = kept_markup m b (stage.Hexadecimal (place.Value q tag)) z w s ts refl h
  kept (stage.Decimal (place.Value q tag)) s ts i g h = kept_markup m b (stage.Decimal (place.Value q tag)) z w s ts refl h
  kept (stage.TagName v) s ts i g h = kept_markup m b (stage.TagName v) z w s ts refl h
  kept (stage.BeforeKey t) s ts i g h = kept_markup m b (stage.BeforeKey t) z w s ts refl h
  kept (stage.Key t) s ts i g h = kept_markup m b (stage.Key t) z w s ts refl h
  kept (stage.AfterKey t) s ts i g h = kept_markup m b (stage.AfterKey t) z w s ts refl h
  kept (stage.BeforeValue t) s ts i g h = kept_markup m b (stage.BeforeValue t) z w s ts refl h
  kept (stage.Value q t) s ts i g h = kept_markup m b (stage.Value q t) z w s ts refl h
  kept (stage.AfterValue t) s ts i g h = kept_markup m b (stage.AfterValue t) z w s ts refl h
  kept (stage.SelfClosing t) s ts i g h = kept_markup m b (stage.SelfClosing t) z w s ts refl h
  kept stage.Doctype s ts i g h = doctype_kept s ts h

-- the end of the page

module _ (m : Mode) (z w : List ℕ) where
  -- a word that is none
  declared : (v : List ℕ) → IsNoOpener v → list_all is_clean v ≡ true → data_of (60 ∷ 33 ∷ v) ≡ v
  declared v (inl e) cl = ap (λ (x : List ℕ). data_of (60 ∷ 33 ∷ x)) e ∙ sym e
  declared v (inr (inl e)) cl = ap (λ (x : List ℕ). data_of (60 ∷ 33 ∷ x)) e ∙ sym e
  declared v (inr (inr f)) cl =
      ap (λ (x : List ℕ). data_of (60 ∷ 33 ∷ x)) (sym (append-nil v)) ∙ no_opener m 0 z w v [] (f []) ∙ clean_stays m 0 z w v [] cl ∙ append-nil v

  script_ends : (s u : State) (ts : List HtmlToken) → s ≡ u → at_end u ≡ [] → InScript m z ts → Says m kind.Text z (ts ++ at_end s)
  script_ends s u ts e f h =
      let all : ts ++ at_end s ≡ ts = ap (λ us. ts ++ us) (ap at_end e ∙ f) ∙ append-nil ts in
      subst (IsText m z) (sym all) (record { kept = λ _. h.1; parts = λ y. absurd (true≢false (sym y ∙ h.0)) })

  -- with nothing emitted before
  alone : (s u : State) (ts us : List HtmlToken) → s ≡ u → ts ≡ [] → at_end u ≡ us → ts ++ at_end s ≡ us
  alone s u ts us e t f = ap₂ (λ (x : List HtmlToken) (y : State). x ++ at_end y) t e ∙ f

  less_ends : (y : List ℕ) (us vs : List HtmlToken) → z ≡ y → us ≡ vs → IsText m y vs → Says m kind.Text z us
  less_ends y us vs e f h = subst (λ x. IsText m x us) (sym e) (subst (IsText m y) (sym f) h)

  comment_ends : (body : List ℕ) (s u : State) (ts : List HtmlToken) (front : List ℕ) → z ≡ opener ++ front → s ≡ u → ts ≡ [] → at_end u ≡ CommentToken (without_nul body) ∷ [] →
      data_of (opener ++ front) ≡ without_nul body → Says m kind.Comment z (ts ++ at_end s)
  comment_ends body s u ts front k e t f i =
      (alone s u ts (CommentToken (without_nul body) ∷ []) e t f ∙ ap (λ d. CommentToken d ∷ []) (sym (ap data_of k ∙ i)), subst BeginsLess (sym k) refl)

  pub said_at_end : (c : Stage) (s : State) (ts : List HtmlToken) → IsStage w c s ts → Content m c z w s ts → Says m (kind_at_end c) z (ts ++ at_end s)
  said_at_end (stage.Whole k n) s ts i h =
      subst (Says m k z) (sym (append-nil ts) ∙ ap (λ us. ts ++ us) (sym (ap at_end i.0 ∙ mode_ends n))) h.0
  said_at_end (stage.Reference (place.Text n)) s ts i h = ordinary_text m z _ h.0 h.1
  said_at_end (stage.NamedReference (place.Text n)) s ts i h = ordinary_text m z _ h.0 h.1
  said_at_end (stage.NumericReference (place.Text n)) s ts i h = ordinary_text m z _ h.0 h.1
  said_at_end (stage.HexadecimalStart (place.Text n)) s ts i h = ordinary_text m z _ h.0 h.1
  said_at_end (stage.DecimalStart (place.Text n)) s ts i h = ordinary_text m z _ h.0 h.1
  said_at_end (stage.Hexadecimal (place.Text n)) s ts i h = ordinary_text m z _ h.0 h.1
  said_at_end (stage.Decimal (place.Text n)) s ts i h = ordinary_text m z _ h.0 h.1
  said_at_end stage.TagOpen s ts (x, e, t) h = less_ends (60 ∷ []) _ _ h.1 (alone s T.tag_open ts (map Character (codes "<")) e t refl) (less_text m)
  said_at_end stage.EndTagOpen s ts (x, e, t) h = less_ends (60 ∷ 47 ∷ []) _ _ h.1 (alone s T.end_tag_open ts (map Character (codes "</")) e t refl) (name_text m [] refl)
  said_at_end (stage.RawLessThan n) s ts (r, x, e, t) h = less_ends (60 ∷ []) _ _ h.1 (alone s _ ts (map Character (codes "<")) e t refl) (less_text m)
  said_at_end (stage.RawEndTagOpen n) s ts (r, x, e, t) h = less_ends (60 ∷ 47 ∷ []) _ _ h.1 (alone s _ ts (map Character (codes "</")) e t refl) (name_text m [] refl)
  said_at_end (stage.RawEndTagName n) s ts (r, e, t) h =
      less_ends (60 ∷ 47 ∷ w) _ _ h.1 (alone s _ ts (map Character (codes "</" ++ w)) e t refl) (name_text m w h.2)
  said_at_end stage.EscapeStart s ts (e, t) h = script_ends s _ ts e refl h
  said_at_end stage.EscapeStartDash s ts (e, t) h = script_ends s _ ts e refl h
  said_at_end stage.DoubleEscapeStart s ts (e, t) h = script_ends s _ ts e refl h
  said_at_end stage.DoubleEscaped s ts (e, t) h = script_ends s _ ts e refl h
  said_at_end stage.DoubleEscapedDash s ts (e, t) h = script_ends s _ ts e refl h
  said_at_end stage.DoubleEscapedDashDash s ts (e, t) h = script_ends s _ ts e refl h
  said_at_end stage.DoubleEscapedLessThan s ts (x, e, t) h = script_ends s _ ts e refl h
  said_at_end stage.DoubleEscapeEnd s ts (v, x, e, t) h = script_ends s _ ts e refl h
  said_at_end stage.BogusComment s ts (old, e0, t) (read, e, f, g) = (
    alone s (T.bogus_comment read) ts (CommentToken read ∷ []) e t refl
        ∙ ap (λ d. CommentToken d ∷ []) (sym (ap data_of (sym (append-nil z)) ∙ f [] ∙ append-nil read)),
    g,
  )
  said_at_end stage.Declaration s ts (v0, x0, e, t) (v, x, k, h, cl) =
      let same : 33 ∷ v0 ≡ 33 ∷ v = sym x0 ∙ x in
      let is : v0 ≡ v = cc in (
        alone s (T.markup_declaration_open v) ts (CommentToken v ∷ []) (e ∙ ap T.markup_declaration_open is) t refl
            ∙ ap (λ d. CommentToken d ∷ []) (sym (ap data_of k ∙ declared v h cl)),
        subst BeginsLess (sym k) refl,
      )
  said_at_end stage.CommentStart s ts (e, t) h = comment_ends [] s T.comment_start ts [] h e t refl refl
  said_at_end stage.CommentStartDash s ts (e, t) h = comment_ends [] s T.comment_start_dash ts (45 ∷ []) h e t refl refl
  said_at_end stage.Comment s ts (old, e0, t) (body, k, e, h) = comment_ends body s _ ts body k e t refl (ap without_nul h.kept)
  said_at_end stage.CommentLessThan s ts (old, e0, t) (body, k, e, h) = comment_ends body s _ ts body k e t refl (ap without_nul h.kept)
  said_at_end stage.CommentBang s ts (old, e0, t) (body, k, e, h) = comment_ends body s _ ts body k e t refl (ap without_nul h.kept)
  said_at_end stage.CommentBangDash s ts (old, e0, t) (body, k, e, h) = comment_ends body s _ ts (body ++ 45 ∷ []) k e t refl (ap without_nul (inside_dash body h))
  said_at_end stage.CommentBangDashDash s ts (old, e0, t) (body, k, e) = comment_ends body s _ ts (body ++ 45 ∷ 45 ∷ []) k e t refl (ap without_nul (inside_two body))
  said_at_end stage.CommentEndDash s ts (old, e0, t) (body, k, e, h) = comment_ends body s _ ts (body ++ 45 ∷ []) k e t refl (ap without_nul (inside_dash body h))
  said_at_end stage.CommentEnd s ts (old, e0, t) (body, k, e) = comment_ends body s _ ts (body ++ 45 ∷ 45 ∷ []) k e t refl (ap without_nul (inside_two body))
  said_at_end stage.CommentEndBang s ts (old, e0, t) (body, k, e) = comment_ends body s _ ts (body ++ 45 ∷ 45 ∷ 33 ∷ []) k e t refl (ap without_nul (inside_bang body))
  said_at_end (stage.Reference (place.Value q tag)) s ts i h = h
  said_at_end (stage.NamedReference (place.Value q tag)) s ts i h = h
  said_at_end (stage.NumericReference (place.Value q tag)) s ts i h = h
  said_at_end (stage.HexadecimalStart (place.Value q tag)) s ts i h = h
  said_at_end (stage.DecimalStart (place.Value q tag)) s ts i h = h
  said_at_end (stage.Hexadecimal (place.Value q tag)) s ts i h = h
  said_at_end (stage.Decimal (place.Value q tag)) s ts i h = h
  said_at_end (stage.TagName v) s ts i h = h
  said_at_end (stage.BeforeKey t) s ts i h = h
  said_at_end (stage.Key t) s ts i h = h
  said_at_end (stage.AfterKey t) s ts i h = h
  said_at_end (stage.BeforeValue t) s ts i h = h
  said_at_end (stage.Value q t) s ts i h = h
  said_at_end (stage.AfterValue t) s ts i h = h
  said_at_end (stage.SelfClosing t) s ts i h = h
  said_at_end stage.Doctype s ts i h = h
