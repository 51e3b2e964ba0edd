-- How a declaration begins, and where a start tag ends.
use Rattle.std.proofs.Common.{◌≡◌, ℕ, Bool, true, false, ◌==◌, ◌&&◌, ◌||◌, List, [], ◌∷◌, ◌++◌, drop, map, codes, refl, ap, sym, subst, ◌∙◌, inl, inr, true≢false, if◌then◌else◌}
use Rattle.std.specs.Char.{is_ascii_alphabetic, is_ascii_alphanumeric, is_ascii_digit, is_ascii_hexdigit, to_ascii_lowercase}
use Rattle.std.specs.Str.{bytes_eq}
use Rattle.std.proofs.lemmas.Bool.{cases_Bool, eqb-true}
use Rattle.tl_html_spec.specs.HtmlTokenizer as T
use Rattle.tl_html_spec.specs.HtmlTokenizer.{HtmlToken, Character, StartTag, EndTag, CommentToken, DoctypeToken, State, begins, ends_name, is_white_space}
use Rattle.tl_html_spec.specs.Driven.{opens_cdata}
use Rattle.tl_html_spec.specs.Pieces.{are_characters}
use Rattle.tl_html_tokens.specs.Ends.{NoStart}
use Rattle.tl_html_tokens.specs.Kinds.{IsKind}
use Rattle.tl_html_tokens.specs.Inner.Machine as M
use Rattle.tl_html_tokens.specs.Modes.{state_of}
use Rattle.tl_html_tokens.specs.declared.mode.Mode.{Mode}
use Rattle.tl_html_tokens.specs.declared.mode.Mode.TheVariants as mode
use Rattle.tl_html_tokens.specs.declared.stage.TokenKind.{TokenKind}
use Rattle.tl_html_tokens.specs.declared.stage.TokenKind.TheVariants as kind
use Rattle.tl_html_tokens.specs.declared.stage.Quote.{Quote}
use Rattle.tl_html_tokens.specs.declared.stage.Quote.TheVariants as quote
use Rattle.tl_html_tokens.specs.declared.stage.Tag.{Tag}
use Rattle.tl_html_tokens.specs.declared.stage.Place.{Place}
use Rattle.tl_html_tokens.specs.declared.stage.Place.TheVariants as place
use Rattle.tl_html_tokens.specs.declared.stage.Stage.{Stage}
use Rattle.tl_html_tokens.specs.declared.stage.Stage.TheVariants as stage
use Rattle.tl_html_tokens.specs.declared.stage.Turn.{Turn}
use Rattle.tl_html_tokens.specs.declared.stage.Turn.TheVariants.{Goes, Ends}
use Rattle.tl_html_tokens.proofs.Steps.{IsBegun, IsStage, IsValue}

-- the stages that lead to a declaration, to which no others lead

abbrev pub is_early : Stage → Bool
is_early stage.TagOpen = true
is_early stage.Declaration = true
is_early _ = false

abbrev leads_early : Turn → Bool
leads_early (Goes c) = is_early c
leads_early (Ends k m) = false

record IsLate (o : Turn) : Type 0 where
  no : leads_early o ≡ false

pick : (v : Bool) (o p : Turn) → IsLate o → IsLate p → IsLate (if v then o else p)
pick true o p h k = h
pick false o p h k = k

module _ (b : ℕ) where
  quoted : (q : Quote) (end : ℕ) (tag : Tag) → IsLate (M.quoted_value q end tag b)
  quoted q end tag = pick (b == end) _ _ (record { no = refl }) (pick (b == 38) _ _ (record { no = refl }) (record { no = refl }))

  value : (q : Quote) (tag : Tag) → IsLate (M.value q tag b)
  value quote.Double tag = quoted quote.Double 34 tag
  value quote.Single tag = quoted quote.Single 39 tag
  value quote.Absent tag = pick (is_white_space b) _ _ (record { no = refl }) (pick (b == 38) _ _ (record { no = refl }) (pick (b == 62) _ _ (record { no = refl }) (record { no = refl })))

  leave : (p : Place) → IsLate (M.leave p b)
  leave (place.Text m) = record { no = refl }
  leave (place.Value q tag) = value q tag

  before_key : (tag : Tag) → IsLate (M.before_key tag b)
  before_key tag = pick (is_white_space b) _ _ (record { no = refl }) (pick (b == 47) _ _ (record { no = refl }) (pick (b == 62) _ _ (record { no = refl }) (record { no = refl })))

  after_key : (tag : Tag) → IsLate (M.after_key tag b)
  after_key tag =
      pick (is_white_space b) _ _ (record { no = refl }) (pick (b == 47) _ _ (record { no = refl })
      (pick (b == 61) _ _ (record { no = refl }) (pick (b == 62) _ _ (record { no = refl }) (record { no = refl }))))

  less : (m : Mode) → IsLate (M.after_less_than m b)
  less mode.Script = pick (b == 33) _ _ (record { no = refl }) (record { no = refl })
  less mode.ScriptEscaped = pick (is_ascii_alphabetic b) _ _ (record { no = refl }) (record { no = refl })
  less _ = record { no = refl }

  resumed : (p : Place) → IsLate (Goes (M.resume p))
  resumed (place.Text m) = record { no = refl }
  resumed (place.Value q tag) = record { no = refl }

  number_end : (p : Place) → IsLate (M.number_end p b)
  number_end p = pick (b == 59) _ _ (resumed p) (leave p)

  comment_turn : IsLate (M.comment b)
  comment_turn = pick (b == 60) _ _ (record { no = refl }) (pick (b == 45) _ _ (record { no = refl }) (record { no = refl }))

  bogus_turn : IsLate (M.bogus_comment b)
  bogus_turn = pick (b == 62) _ _ (record { no = refl }) (record { no = refl })

  double_escaped_turn : IsLate (M.double_escaped b)
  double_escaped_turn = pick (b == 45) _ _ (record { no = refl }) (pick (b == 60) _ _ (record { no = refl }) (record { no = refl }))

  comment_end_dash_turn : IsLate (M.comment_end_dash b)
  comment_end_dash_turn = pick (b == 45) _ _ (record { no = refl }) comment_turn

  comment_end_turn : IsLate (M.comment_end b)
  comment_end_turn = pick (b == 62) _ _ (record { no = refl }) (pick (b == 33) _ _ (record { no = refl }) (pick (b == 45) _ _ (record { no = refl }) comment_turn))

  turns_late : (c : Stage) (w : List ℕ) → is_early c ≡ false → IsLate (M.turn c w b)
  turns_late (stage.Reference p) w g = pick (is_ascii_alphanumeric b) _ _ (record { no = refl }) (pick (b == 35) _ _ (record { no = refl }) (leave p))
  turns_late (stage.NamedReference p) w g = pick (is_ascii_alphanumeric b) _ _ (record { no = refl }) (pick (b == 59) _ _ (resumed p) (leave p))
  turns_late (stage.NumericReference p) w g = pick (to_ascii_lowercase b == 120) _ _ (record { no = refl }) (pick (is_ascii_digit b) _ _ (record { no = refl }) (leave p))
  turns_late (stage.HexadecimalStart p) w g = pick (is_ascii_hexdigit b) _ _ (record { no = refl }) (leave p)
  turns_late (stage.DecimalStart p) w g = pick (is_ascii_digit b) _ _ (record { no = refl }) (leave p)
  turns_late (stage.Hexadecimal p) w g = pick (is_ascii_hexdigit b) _ _ (record { no = refl }) (number_end p)
  turns_late (stage.Decimal p) w g = pick (is_ascii_digit b) _ _ (record { no = refl }) (number_end p)
  turns_late stage.TagOpen w g = absurd (true≢false g)
  turns_late stage.EndTagOpen w g = pick (is_ascii_alphabetic b) _ _ (record { no = refl }) (pick (b == 62) _ _ (record { no = refl }) (record { no = refl }))
  turns_late (stage.TagName e) w g =
      pick (is_white_space b) _ _ (record { no = refl }) (pick (b == 47) _ _ (record { no = refl }) (pick (b == 62) _ _ (record { no = refl }) (record { no = refl })))
  turns_late (stage.RawLessThan m) w g = pick (b == 47) _ _ (record { no = refl }) (less m)
  turns_late (stage.RawEndTagOpen m) w g = pick (is_ascii_alphabetic b) _ _ (record { no = refl }) (record { no = refl })
  turns_late (stage.RawEndTagName m) w g =
      pick (is_white_space b && M.is_own m w) _ _ (record { no = refl }) (pick ((b == 47) && M.is_own m w) _ _ (record { no = refl })
      (pick ((b == 62) && M.is_own m w) _ _ (record { no = refl }) (pick (is_ascii_alphabetic b) _ _ (record { no = refl }) (record { no = refl }))))
  turns_late (stage.BeforeKey tag) w g = before_key tag
  turns_late (stage.Key tag) w g = pick (ends_name b) _ _ (after_key tag) (pick (b == 61) _ _ (record { no = refl }) (record { no = refl }))
  turns_late (stage.AfterKey tag) w g = after_key tag
  turns_late (stage.BeforeValue tag) w g =
      pick (is_white_space b) _ _ (record { no = refl }) (pick (b == 34) _ _ (record { no = refl }) (pick (b == 39) _ _ (record { no = refl })
      (pick (b == 62) _ _ (record { no = refl }) (value quote.Absent tag))))
  turns_late (stage.Value q tag) w g = value q tag
  turns_late (stage.AfterValue tag) w g =
      pick (is_white_space b) _ _ (record { no = refl }) (pick (b == 47) _ _ (record { no = refl }) (pick (b == 62) _ _ (record { no = refl }) (before_key tag)))
  turns_late (stage.SelfClosing tag) w g = pick (b == 62) _ _ (record { no = refl }) (before_key tag)
  turns_late (stage.Whole k m) w g = record { no = refl }
  turns_late stage.EscapeStart w g = pick (b == 45) _ _ (record { no = refl }) (record { no = refl })
  turns_late stage.EscapeStartDash w g = pick (b == 45) _ _ (record { no = refl }) (record { no = refl })
  turns_late stage.DoubleEscapeStart w g = pick (ends_name b) _ _ (pick (M.is_script w) _ _ (record { no = refl }) (record { no = refl })) (pick (is_ascii_alphabetic b) _ _ (record { no = refl }) (record { no = refl }))
  turns_late stage.DoubleEscaped w g = double_escaped_turn
  turns_late stage.DoubleEscapedDash w g = pick (b == 45) _ _ (record { no = refl }) (pick (b == 60) _ _ (record { no = refl }) (record { no = refl }))
  turns_late stage.DoubleEscapedDashDash w g = pick (b == 45) _ _ (record { no = refl }) (pick (b == 60) _ _ (record { no = refl }) (pick (b == 62) _ _ (record { no = refl }) (record { no = refl })))
  turns_late stage.DoubleEscapedLessThan w g = pick (b == 47) _ _ (record { no = refl }) double_escaped_turn
  turns_late stage.DoubleEscapeEnd w g = pick (ends_name b) _ _ (pick (M.is_script (drop 1 w)) _ _ (record { no = refl }) (record { no = refl })) (pick (is_ascii_alphabetic b) _ _ (record { no = refl }) double_escaped_turn)
  turns_late stage.BogusComment w g = bogus_turn
  turns_late stage.Declaration w g = absurd (true≢false g)
  turns_late stage.CommentStart w g = pick (b == 45) _ _ (record { no = refl }) (pick (b == 62) _ _ (record { no = refl }) comment_turn)
  turns_late stage.CommentStartDash w g = pick (b == 45) _ _ (record { no = refl }) (pick (b == 62) _ _ (record { no = refl }) comment_turn)
  turns_late stage.Comment w g = comment_turn
  turns_late stage.CommentLessThan w g = pick (b == 33) _ _ (record { no = refl }) (pick (b == 60) _ _ (record { no = refl }) comment_turn)
  turns_late stage.CommentBang w g = pick (b == 45) _ _ (record { no = refl }) comment_turn
  turns_late stage.CommentBangDash w g = pick (b == 45) _ _ (record { no = refl }) comment_end_dash_turn
  turns_late stage.CommentBangDashDash w g = comment_end_turn
  turns_late stage.CommentEndDash w g = comment_end_dash_turn
  turns_late stage.CommentEnd w g = comment_end_turn
  turns_late stage.CommentEndBang w g = pick (b == 45) _ _ (record { no = refl }) (pick (b == 62) _ _ (record { no = refl }) comment_turn)
  turns_late stage.Doctype w g = pick (b == 62) _ _ (record { no = refl }) (record { no = refl })

pub early_before : (c d : Stage) (w : List ℕ) (b : ℕ) → M.turn c w b ≡ Goes d → is_early d ≡ true → is_early c ≡ true
early_before c d w b e h = elim (cases_Bool (is_early c)) [
  | inl y ↦ y
  | inr n ↦ absurd (true≢false (sym h ∙ sym (ap leads_early e) ∙ (turns_late b c w n).no))
]

-- and none leads to its first one

abbrev opens_tag : Turn → Bool
opens_tag (Goes stage.TagOpen) = true
opens_tag _ = false

record NoOpen (o : Turn) : Type 0 where
  no : opens_tag o ≡ false

neither : (v : Bool) (o p : Turn) → NoOpen o → NoOpen p → NoOpen (if v then o else p)
neither true o p h k = h
neither false o p h k = k

bogus_opens : (b : ℕ) → NoOpen (M.bogus_comment b)
bogus_opens b = neither (b == 62) _ _ (record { no = refl }) (record { no = refl })

early_opens : (c : Stage) (w : List ℕ) (b : ℕ) → is_early c ≡ true → NoOpen (M.turn c w b)
early_opens stage.TagOpen w b h =
    neither (b == 33) _ _ (record { no = refl }) (neither (b == 47) _ _ (record { no = refl })
    (neither (is_ascii_alphabetic b) _ _ (record { no = refl }) (neither (b == 63) _ _ (record { no = refl }) (record { no = refl }))))
early_opens stage.Declaration w b h =
    neither (b == 10) _ _ (bogus_opens b) (neither (bytes_eq (drop 1 (w ++ b ∷ [])) (codes "--")) _ _ (record { no = refl })
    (neither (bytes_eq (map to_ascii_lowercase (drop 1 (w ++ b ∷ []))) (codes "doctype")) _ _ (record { no = refl })
    (neither (begins (codes "--") (drop 1 (w ++ b ∷ [])) || begins (codes "doctype") (drop 1 (w ++ b ∷ []))) _ _ (record { no = refl }) (bogus_opens b))))
early_opens _ w b h = absurd (true≢false (sym h))

pub no_open : (c : Stage) (w : List ℕ) (b : ℕ) → M.turn c w b ≡ Goes stage.TagOpen → ⊥
no_open c w b e = true≢false (sym (ap opens_tag e) ∙ (early_opens c w b (early_before c stage.TagOpen w b e refl)).no)

-- the state of a declaration is that stage's alone

abbrev is_declaration : State → Bool
is_declaration (T.markup_declaration_open buffer) = true
is_declaration _ = false

mode_no_declaration : (m : Mode) → is_declaration (state_of m) ≡ false
mode_no_declaration mode.Data = refl
mode_no_declaration mode.Title = refl
mode_no_declaration mode.Textarea = refl
mode_no_declaration mode.ContextText = refl
mode_no_declaration mode.Style = refl
mode_no_declaration mode.Xmp = refl
mode_no_declaration mode.Iframe = refl
mode_no_declaration mode.Noembed = refl
mode_no_declaration mode.Noframes = refl
mode_no_declaration mode.Noscript = refl
mode_no_declaration mode.Script = refl
mode_no_declaration mode.ScriptEscaped = refl
mode_no_declaration mode.ScriptEscapedDash = refl
mode_no_declaration mode.ScriptEscapedDashDash = refl
mode_no_declaration mode.Plaintext = refl

value_no_declaration : (q : Quote) (o : T.OpenTag) (key v : List ℕ) (s : State) → IsValue q o key v s → is_declaration s ≡ false
value_no_declaration quote.Double o key v s e = ap is_declaration e
value_no_declaration quote.Single o key v s e = ap is_declaration e
value_no_declaration quote.Absent o key v s e = ap is_declaration e

declared : (w : List ℕ) (c : Stage) (s : State) (ts : List HtmlToken) → IsStage w c s ts → is_declaration s ≡ true → c ≡ stage.Declaration
declared w (stage.Whole k m) s ts h g = absurd (true≢false (sym g ∙ ap is_declaration h.0 ∙ mode_no_declaration m))
declared w (stage.Reference p) s ts (r, h, e, t) g = absurd (true≢false (sym g ∙ ap is_declaration e))
declared w (stage.NamedReference p) s ts (r, buffer, some, h, e, t) g = absurd (true≢false (sym g ∙ ap is_declaration e))
declared w (stage.NumericReference p) s ts (r, h, e, t) g = absurd (true≢false (sym g ∙ ap is_declaration e))
declared w (stage.HexadecimalStart p) s ts (r, x, h, e, t) g = absurd (true≢false (sym g ∙ ap is_declaration e))
declared w (stage.DecimalStart p) s ts (r, h, e, t) g = absurd (true≢false (sym g ∙ ap is_declaration e))
declared w (stage.Hexadecimal p) s ts (r, code, h, e, t) g = absurd (true≢false (sym g ∙ ap is_declaration e))
declared w (stage.Decimal p) s ts (r, code, h, e, t) g = absurd (true≢false (sym g ∙ ap is_declaration e))
declared w stage.TagOpen s ts (x, e, t) g = absurd (true≢false (sym g ∙ ap is_declaration e))
declared w stage.EndTagOpen s ts (x, e, t) g = absurd (true≢false (sym g ∙ ap is_declaration e))
declared w (stage.TagName is_end) s ts (e, t) g = absurd (true≢false (sym g ∙ ap is_declaration e))
declared w (stage.RawLessThan m) s ts (h, x, e, t) g = absurd (true≢false (sym g ∙ ap is_declaration e))
declared w (stage.RawEndTagOpen m) s ts (h, x, e, t) g = absurd (true≢false (sym g ∙ ap is_declaration e))
declared w (stage.RawEndTagName m) s ts (h, e, t) g = absurd (true≢false (sym g ∙ ap is_declaration e))
declared w stage.EscapeStart s ts (e, t) g = absurd (true≢false (sym g ∙ ap is_declaration e))
declared w stage.EscapeStartDash s ts (e, t) g = absurd (true≢false (sym g ∙ ap is_declaration e))
declared w stage.DoubleEscapeStart s ts (e, t) g = absurd (true≢false (sym g ∙ ap is_declaration e))
declared w stage.DoubleEscaped s ts (e, t) g = absurd (true≢false (sym g ∙ ap is_declaration e))
declared w stage.DoubleEscapedDash s ts (e, t) g = absurd (true≢false (sym g ∙ ap is_declaration e))
declared w stage.DoubleEscapedDashDash s ts (e, t) g = absurd (true≢false (sym g ∙ ap is_declaration e))
declared w stage.DoubleEscapedLessThan s ts (x, e, t) g = absurd (true≢false (sym g ∙ ap is_declaration e))
declared w stage.DoubleEscapeEnd s ts (v, x, e, t) g = absurd (true≢false (sym g ∙ ap is_declaration e))
declared w (stage.BeforeKey tag) s ts (o, h, e, t) g = absurd (true≢false (sym g ∙ ap is_declaration e))
declared w (stage.Key tag) s ts (o, key, h, e, t) g = absurd (true≢false (sym g ∙ ap is_declaration e))
declared w (stage.AfterKey tag) s ts (o, key, h, e, t) g = absurd (true≢false (sym g ∙ ap is_declaration e))
declared w (stage.BeforeValue tag) s ts (o, key, h, e, t) g = absurd (true≢false (sym g ∙ ap is_declaration e))
declared w (stage.Value q tag) s ts ((o, key, v, h, e), t) g = absurd (true≢false (sym g ∙ value_no_declaration q o key v s e))
declared w (stage.AfterValue tag) s ts (o, h, e, t) g = absurd (true≢false (sym g ∙ ap is_declaration e))
declared w (stage.SelfClosing tag) s ts (o, h, e, t) g = absurd (true≢false (sym g ∙ ap is_declaration e))
declared w stage.BogusComment s ts (bytes, e, t) g = absurd (true≢false (sym g ∙ ap is_declaration e))
declared w stage.Declaration s ts h g = refl
declared w stage.CommentStart s ts (e, t) g = absurd (true≢false (sym g ∙ ap is_declaration e))
declared w stage.CommentStartDash s ts (e, t) g = absurd (true≢false (sym g ∙ ap is_declaration e))
declared w stage.Comment s ts (bytes, e, t) g = absurd (true≢false (sym g ∙ ap is_declaration e))
declared w stage.CommentLessThan s ts (bytes, e, t) g = absurd (true≢false (sym g ∙ ap is_declaration e))
declared w stage.CommentBang s ts (bytes, e, t) g = absurd (true≢false (sym g ∙ ap is_declaration e))
declared w stage.CommentBangDash s ts (bytes, e, t) g = absurd (true≢false (sym g ∙ ap is_declaration e))
declared w stage.CommentBangDashDash s ts (bytes, e, t) g = absurd (true≢false (sym g ∙ ap is_declaration e))
declared w stage.CommentEndDash s ts (bytes, e, t) g = absurd (true≢false (sym g ∙ ap is_declaration e))
declared w stage.CommentEnd s ts (bytes, e, t) g = absurd (true≢false (sym g ∙ ap is_declaration e))
declared w stage.CommentEndBang s ts (bytes, e, t) g = absurd (true≢false (sym g ∙ ap is_declaration e))
declared w stage.Doctype s ts (e, t) g = absurd (true≢false (sym g ∙ ap is_declaration e))

pub opens_at : (s : State) (c : ℕ) → opens_cdata s c ≡ true → (s ≡ T.markup_declaration_open []) × ((c == 91) ≡ true)
opens_at (T.markup_declaration_open []) c h = (refl, h)
opens_at _ c h = absurd (true≢false (sym h))

pub mode_opens_none : (m : Mode) (c : ℕ) → opens_cdata (state_of m) c ≡ false
mode_opens_none m c = elim (cases_Bool (opens_cdata (state_of m) c)) [
  | inl y ↦ absurd (true≢false (sym (ap is_declaration (opens_at (state_of m) c y).0) ∙ mode_no_declaration m))
  | inr n ↦ n
]

-- where a `[` comes right after `<!`
pub record IsOpening (w : List ℕ) (c : Stage) (b : ℕ) : Type 0 where
  pub stage : c ≡ stage.Declaration
  pub word : w ≡ 33 ∷ []
  pub byte : b ≡ 91

declared_word : (w : List ℕ) (s : State) (ts : List HtmlToken) → IsStage w stage.Declaration s ts → s ≡ T.markup_declaration_open [] → w ≡ 33 ∷ []
declared_word w s ts (v, x, e, t) h = let same : T.markup_declaration_open v ≡ T.markup_declaration_open [] = sym e ∙ h in let is : v ≡ [] = cc in x ∙ ap (λ u. 33 ∷ u) is

pub opening : (w : List ℕ) (c : Stage) (s : State) (ts : List HtmlToken) (b : ℕ) → IsStage w c s ts → opens_cdata s b ≡ true → IsOpening w c b
opening w c s ts b h o =
    let at = opens_at s b o in
    let is = declared w c s ts h (ap is_declaration at.0) in
    record { stage = is; word = declared_word w s ts (subst (λ (d : Stage). IsStage w d s ts) is h) at.0; byte = eqb-true b 91 at.1 }

-- no start tag has been emitted, but by a whole one

pub chars_quiet : (ts : List HtmlToken) → are_characters ts ≡ true → NoStart ts
chars_quiet [] h = tt
chars_quiet (Character b ∷ []) h = tt
chars_quiet (Character b ∷ t ∷ ts) h = chars_quiet (t ∷ ts) h
chars_quiet (StartTag n a c ∷ ts) h = absurd (true≢false (sym h))
chars_quiet (EndTag n ∷ ts) h = absurd (true≢false (sym h))
chars_quiet (CommentToken n ∷ ts) h = absurd (true≢false (sym h))
chars_quiet (DoctypeToken ∷ ts) h = absurd (true≢false (sym h))

none_quiet : (ts : List HtmlToken) → ts ≡ [] → NoStart ts
none_quiet ts e = subst NoStart (sym e) tt

abbrev pub is_start_kind : TokenKind → Bool
is_start_kind kind.StartTag = true
is_start_kind _ = false

end_tag_quiet : (ts : List HtmlToken) → IsKind kind.EndTag ts → NoStart ts
end_tag_quiet (EndTag n ∷ []) h = tt
end_tag_quiet _ h = absurd h

comment_quiet : (ts : List HtmlToken) → IsKind kind.Comment ts → NoStart ts
comment_quiet (CommentToken n ∷ []) h = tt
comment_quiet _ h = absurd h

doctype_quiet : (ts : List HtmlToken) → IsKind kind.Doctype ts → NoStart ts
doctype_quiet (DoctypeToken ∷ []) h = tt
doctype_quiet _ h = absurd h

pub kind_quiet : (k : TokenKind) (ts : List HtmlToken) → IsKind k ts → is_start_kind k ≡ false → NoStart ts
kind_quiet kind.Text ts h g = chars_quiet ts h
kind_quiet kind.StartTag ts h g = absurd (true≢false g)
kind_quiet kind.EndTag ts h g = end_tag_quiet ts h
kind_quiet kind.Comment ts h g = comment_quiet ts h
kind_quiet kind.Doctype ts h g = doctype_quiet ts h
kind_quiet kind.Nothing ts h g = none_quiet ts h

abbrev pub starts_stage : Stage → Bool
starts_stage (stage.Whole k m) = is_start_kind k
starts_stage _ = false

pub begun_starts : (c : Stage) → IsBegun c → starts_stage c ≡ false
begun_starts (stage.Whole k m) g = absurd g
begun_starts _ g = refl

pub stage_quiet : (w : List ℕ) (c : Stage) (s : State) (ts : List HtmlToken) → IsStage w c s ts → starts_stage c ≡ false → NoStart ts
stage_quiet w (stage.Whole k m) s ts h g = kind_quiet k ts h.1 g
stage_quiet w (stage.Reference p) s ts (r, h, e, t) g = none_quiet ts t
stage_quiet w (stage.NamedReference p) s ts (r, buffer, some, h, e, t) g = none_quiet ts t
stage_quiet w (stage.NumericReference p) s ts (r, h, e, t) g = none_quiet ts t
stage_quiet w (stage.HexadecimalStart p) s ts (r, x, h, e, t) g = none_quiet ts t
stage_quiet w (stage.DecimalStart p) s ts (r, h, e, t) g = none_quiet ts t
stage_quiet w (stage.Hexadecimal p) s ts (r, code, h, e, t) g = none_quiet ts t
stage_quiet w (stage.Decimal p) s ts (r, code, h, e, t) g = none_quiet ts t
stage_quiet w stage.TagOpen s ts (x, e, t) g = none_quiet ts t
stage_quiet w stage.EndTagOpen s ts (x, e, t) g = none_quiet ts t
stage_quiet w (stage.TagName is_end) s ts (e, t) g = none_quiet ts t
stage_quiet w (stage.RawLessThan m) s ts (h, x, e, t) g = none_quiet ts t
stage_quiet w (stage.RawEndTagOpen m) s ts (h, x, e, t) g = none_quiet ts t
stage_quiet w (stage.RawEndTagName m) s ts (h, e, t) g = none_quiet ts t
stage_quiet w stage.EscapeStart s ts (e, t) g = chars_quiet ts t
stage_quiet w stage.EscapeStartDash s ts (e, t) g = chars_quiet ts t
stage_quiet w stage.DoubleEscapeStart s ts (e, t) g = chars_quiet ts t
stage_quiet w stage.DoubleEscaped s ts (e, t) g = chars_quiet ts t
stage_quiet w stage.DoubleEscapedDash s ts (e, t) g = chars_quiet ts t
stage_quiet w stage.DoubleEscapedDashDash s ts (e, t) g = chars_quiet ts t
stage_quiet w stage.DoubleEscapedLessThan s ts (x, e, t) g = chars_quiet ts t
stage_quiet w stage.DoubleEscapeEnd s ts (v, x, e, t) g = chars_quiet ts t
stage_quiet w (stage.BeforeKey tag) s ts (o, h, e, t) g = none_quiet ts t
stage_quiet w (stage.Key tag) s ts (o, key, h, e, t) g = none_quiet ts t
stage_quiet w (stage.AfterKey tag) s ts (o, key, h, e, t) g = none_quiet ts t
stage_quiet w (stage.BeforeValue tag) s ts (o, key, h, e, t) g = none_quiet ts t
stage_quiet w (stage.Value q tag) s ts ((o, key, v, h, e), t) g = none_quiet ts t
stage_quiet w (stage.AfterValue tag) s ts (o, h, e, t) g = none_quiet ts t
stage_quiet w (stage.SelfClosing tag) s ts (o, h, e, t) g = none_quiet ts t
stage_quiet w stage.BogusComment s ts (bytes, e, t) g = none_quiet ts t
stage_quiet w stage.Declaration s ts (v, x, e, t) g = none_quiet ts t
stage_quiet w stage.CommentStart s ts (e, t) g = none_quiet ts t
stage_quiet w stage.CommentStartDash s ts (e, t) g = none_quiet ts t
stage_quiet w stage.Comment s ts (bytes, e, t) g = none_quiet ts t
stage_quiet w stage.CommentLessThan s ts (bytes, e, t) g = none_quiet ts t
stage_quiet w stage.CommentBang s ts (bytes, e, t) g = none_quiet ts t
stage_quiet w stage.CommentBangDash s ts (bytes, e, t) g = none_quiet ts t
stage_quiet w stage.CommentBangDashDash s ts (bytes, e, t) g = none_quiet ts t
stage_quiet w stage.CommentEndDash s ts (bytes, e, t) g = none_quiet ts t
stage_quiet w stage.CommentEnd s ts (bytes, e, t) g = none_quiet ts t
stage_quiet w stage.CommentEndBang s ts (bytes, e, t) g = none_quiet ts t
stage_quiet w stage.Doctype s ts (e, t) g = none_quiet ts t

-- a line feed ends no start tag

abbrev pub turn_starts : Turn → Bool
turn_starts (Goes c) = starts_stage c
turn_starts (Ends k m) = false

past_feed : (p : Place) → turn_starts (M.leave p 10) ≡ false
past_feed (place.Text m) = refl
past_feed (place.Value quote.Double tag) = refl
past_feed (place.Value quote.Single tag) = refl
past_feed (place.Value quote.Absent tag) = refl

value_feed : (q : Quote) (tag : Tag) → turn_starts (M.value q tag 10) ≡ false
value_feed quote.Double tag = refl
value_feed quote.Single tag = refl
value_feed quote.Absent tag = refl

less_feed : (m : Mode) → turn_starts (M.after_less_than m 10) ≡ false
less_feed mode.Script = refl
less_feed mode.ScriptEscaped = refl
less_feed _ = refl

neither_feed : (v : Bool) (o p : Turn) → turn_starts o ≡ false → turn_starts p ≡ false → turn_starts (if v then o else p) ≡ false
neither_feed true o p h k = h
neither_feed false o p h k = k

pub feed_starts : (c : Stage) (w : List ℕ) → turn_starts (M.turn c w 10) ≡ false
feed_starts (stage.Reference p) w = past_feed p
feed_starts (stage.NamedReference p) w = past_feed p
feed_starts (stage.NumericReference p) w = past_feed p
feed_starts (stage.HexadecimalStart p) w = past_feed p
feed_starts (stage.DecimalStart p) w = past_feed p
feed_starts (stage.Hexadecimal p) w = past_feed p
feed_starts (stage.Decimal p) w = past_feed p
feed_starts (stage.RawLessThan m) w = less_feed m
feed_starts (stage.RawEndTagName m) w = neither_feed (M.is_own m w) _ _ refl refl
feed_starts stage.DoubleEscapeStart w = neither_feed (M.is_script w) _ _ refl refl
feed_starts stage.DoubleEscapeEnd w = neither_feed (M.is_script (drop 1 w)) _ _ refl refl
feed_starts (stage.Value q tag) w = value_feed q tag
feed_starts _ w = refl
