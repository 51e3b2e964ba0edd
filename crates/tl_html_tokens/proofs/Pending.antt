-- What is pending before a byte is what the end of the page would emit.
use Rattle.std.proofs.Common.{◌≡◌, ℕ, Bool, true, false, ◌==◌, ◌&&◌, List, [], ◌∷◌, ◌++◌, map, Option, Some, None, codes, drop, length, refl, ap, sym, subst, ◌∙◌, true≢false, append-nil, if◌then◌else◌, ◌||◌}
use Rattle.std.specs.Prelude.{⊤, option_map}
use Rattle.std.specs.Char.{is_ascii_alphabetic, is_ascii_alphanumeric, is_ascii_digit, is_ascii_hexdigit, to_ascii_lowercase}
use Rattle.std.specs.Str.{bytes_eq}
use Rattle.tl_names.specs.References.{table_of}
use Rattle.tl_html_spec.specs.HtmlTokenizer as T
use Rattle.tl_html_spec.specs.HtmlTokenizer.{HtmlToken, Character, State, Step, at_end, ends_name, is_white_space, step}
use Rattle.tl_html_spec.specs.Reader.{Rest, emitting_before, is_at_rest, rest_within}
use Rattle.tl_html_spec.specs.References.{Reference, Row, is_left, named, named_reference, named_value, number_value, resolved, rows}
use Rattle.tl_html_spec.specs.Sound.{IsSome}
use Rattle.tl_html_spec.proofs.Ahead.{first-same, is_name_byte, letters-same}
use Rattle.tl_html_spec.proofs.NameForms.{rows-named}
use Rattle.tl_html_tokens.specs.Inner.Machine as M
use Rattle.tl_html_tokens.specs.Modes.{state_of}
use Rattle.tl_html_tokens.specs.declared.mode.Mode.{Mode}
use Rattle.tl_html_tokens.specs.declared.mode.Mode.TheVariants as mode
use Rattle.tl_html_tokens.specs.declared.stage.Quote.{Quote}
use Rattle.tl_html_tokens.specs.declared.stage.Quote.TheVariants as quote
use Rattle.tl_html_tokens.specs.declared.stage.Tag.{Tag}
use Rattle.tl_html_tokens.specs.declared.stage.Place.TheVariants as place
use Rattle.tl_html_tokens.specs.declared.stage.Stage.{Stage}
use Rattle.tl_html_tokens.specs.declared.stage.Stage.TheVariants as stage
use Rattle.tl_html_tokens.specs.declared.stage.Turn.{Turn}
use Rattle.tl_html_tokens.specs.declared.stage.Turn.TheVariants.{Goes, Ends}
use Rattle.tl_html_tokens.proofs.Steps.{IsBegun, IsStage, flushed_text, raw_of, rests}
use Rattle.tl_html_tokens.proofs.TextStages.{name_emits}
use Rattle.tl_html_tokens.proofs.Turns.{rest_here}

-- a name ends before a byte that none has, whether that byte stands there or not

named-ends : (buffer : List ℕ) (b : ℕ) → IsSome buffer → is_name_byte b ≡ false → named (buffer ++ b ∷ []) ≡ named (buffer ++ [])
named-ends [] b some h = absurd some
named-ends (c ∷ u) b some h = first-same (rows (table_of c)) ((c ∷ u) ++ b ∷ []) ((c ∷ u) ++ []) (rows-named c) (λ n k. letters-same (c ∷ u) n (b ∷ []) [] k h refl)

-- of a text, where nothing after a name matters

abbrev of_name : Option Row → Option Reference
of_name None = None
of_name (Some row) = Some (record { gives = row.1; takes = length row.0 })

abbrev by_row : List ℕ → Option Row → Option Reference
by_row s o =
    elim o as (λ _. Option Reference) [
      | None ↦ None
      | Some row ↦
          if false && is_left row.0 (drop (length row.0) s) then None
          else Some (record { gives = row.1; takes = length row.0 })
    ]

row-only : (s : List ℕ) (o : Option Row) → by_row s o ≡ of_name o
row-only s None = refl
row-only s (Some row) = refl

value-ends : (buffer : List ℕ) (b : ℕ) → IsSome buffer → is_name_byte b ≡ false → named_value false buffer (b ∷ []) ≡ named_value false buffer []
value-ends buffer b some h =
    let all : named_reference false (buffer ++ b ∷ []) ≡ named_reference false (buffer ++ []) =
    row-only (buffer ++ b ∷ []) (named (buffer ++ b ∷ [])) ∙ ap of_name (named-ends buffer b some h) ∙ sym (row-only (buffer ++ []) (named (buffer ++ []))) in
    ap (λ (o : Option Reference). resolved o buffer) all

no_value : (m : Mode) → T.is_value (state_of m) ≡ false
no_value m = by (state_of m) (rests m)
  where
    by : (s : State) → is_at_rest s ≡ true → T.is_value s ≡ false
    by T.data_state h = refl
    by (T.raw r) h = refl
    by T.plaintext h = refl
    by _ h = absurd (true≢false (sym h))

-- after a state of rest nothing is pending
pub rest_end : (s : State) → is_at_rest s ≡ true → at_end s ≡ []
rest_end T.data_state h = refl
rest_end (T.raw r) h = refl
rest_end T.plaintext h = refl
rest_end _ h = absurd (true≢false (sym h))

module _ (b : ℕ) where
  abbrev emits_in : Option Rest → List HtmlToken
  emits_in None = []
  emits_in (Some r) = r.emits

  abbrev pub IsPending : State → Type 0
  IsPending s = (u : State) (es : List HtmlToken) → rest_within 2 s b ≡ Some (record { state = u; emits = es }) → at_end s ≡ es

  -- where the byte ends the piece
  abbrev pub Holds : State → Turn → Type 0
  Holds s (Goes c) = ⊤
  Holds s (Ends k m) = IsPending s

  given : (s t : State) (ts : List HtmlToken) → rest_within 2 s b ≡ Some (record { state = t; emits = ts }) → at_end s ≡ ts → IsPending s
  given s t ts h k u es e = k ∙ sym (ap emits_in h) ∙ ap emits_in e

  pick : (s : State) (v : Bool) (o p : Turn) → (v ≡ true → Holds s o) → (v ≡ false → Holds s p) → Holds s (if v then o else p)
  pick s true o p f g = f refl
  pick s false o p f g = g refl

  -- references in a text

  abbrev after_step : Step → Option Rest
  after_step x = if x.again then option_map (emitting_before x.emits) (rest_within 1 x.next b) else None

  by_step : (s : State) → is_at_rest s ≡ false → rest_within 2 s b ≡ after_step (step s b)
  by_step s f = rw f refl

  flushed_rest : (n : Mode) (bytes : List ℕ) → after_step (T.flushed (state_of n) bytes true) ≡ Some (record { state = state_of n; emits = map Character bytes })
  flushed_rest n bytes =
      ap after_step (flushed_text n bytes true)
      ∙ ap (option_map (emitting_before (map Character bytes))) (rest_here b [] 1 (state_of n) (rests n))
      ∙ ap (λ us. Some (record { state = state_of n; emits = us })) (append-nil (map Character bytes))

  flush : (s : State) (n : Mode) (bytes : List ℕ) → is_at_rest s ≡ false → step s b ≡ T.flushed (state_of n) bytes true → at_end s ≡ (T.flushed (state_of n) bytes false).emits → IsPending s
  flush s n bytes f e k =
      given s (state_of n) (map Character bytes) (by_step s f ∙ ap after_step e ∙ flushed_rest n bytes) (k ∙ ap (λ (x : Step). x.emits) (flushed_text n bytes false))

  reference : (n : Mode) → Holds (T.character_reference (state_of n)) (M.reference (place.Text n) b)
  reference n =
      let s : State = T.character_reference (state_of n) in
      pick s (is_ascii_alphanumeric b) _ _ (λ _. tt) (λ a. pick s (b == 35) _ _ (λ _. tt) (λ c. flush s n (codes "&") refl (rw (a, c) refl) refl))

  name_byte : is_ascii_alphanumeric b ≡ false → (b == 59) ≡ false → is_name_byte b ≡ false
  name_byte a c = rw (a, c) refl

  named_ends : (n : Mode) (buffer : List ℕ) → IsSome buffer → Holds (T.named_character_reference (state_of n) buffer) (M.named_reference (place.Text n) b)
  named_ends n buffer some =
      let s : State = T.named_character_reference (state_of n) buffer in
      pick s (is_ascii_alphanumeric b) _ _ (λ _. tt) (λ a. pick s (b == 59) _ _ (λ _. tt)
      (λ c. flush s n (named_value (T.is_value (state_of n)) buffer (b ∷ [])) refl (rw (a, c) refl)
      (ap (λ x. (T.flushed (state_of n) x false).emits) (
      ap (λ v. named_value v buffer []) (no_value n) ∙ sym (value-ends buffer b some (name_byte a c)) ∙ sym (ap (λ v. named_value v buffer (b ∷ [])) (no_value n))))))

  decimal_start : (n : Mode) → Holds (T.decimal_start (state_of n)) (M.decimal_start (place.Text n) b)
  decimal_start n =
      let s : State = T.decimal_start (state_of n) in
      pick s (is_ascii_digit b) _ _ (λ _. tt) (λ a. flush s n (codes "&#") refl (rw a refl) refl)

  numeric : (n : Mode) → Holds (T.numeric_character_reference (state_of n)) (M.numeric_reference (place.Text n) b)
  numeric n =
      let s : State = T.numeric_character_reference (state_of n) in
      pick s (to_ascii_lowercase b == 120) _ _ (λ _. tt) (λ x. pick s (is_ascii_digit b) _ _ (λ _. tt)
      (λ a.
      let on : step (T.decimal_start (state_of n)) b ≡ record { next = state_of n; emits = map Character (codes "&#"); again = true } = rw a (flushed_text n (codes "&#") true) in
      given s (state_of n) (map Character (codes "&#")) (rw (x, on, rests n) refl) (ap (λ (y : Step). y.emits) (flushed_text n (codes "&#") false))))

  hexadecimal_start : (n : Mode) (x : ℕ) → Holds (T.hexadecimal_start (state_of n) x) (M.hexadecimal_start (place.Text n) b)
  hexadecimal_start n x =
      let s : State = T.hexadecimal_start (state_of n) x in
      pick s (is_ascii_hexdigit b) _ _ (λ _. tt) (λ a. flush s n (codes "&#" ++ x ∷ []) refl (rw a refl) refl)

  hexadecimal : (n : Mode) (code : ℕ) → Holds (T.hexadecimal (state_of n) code) (M.hexadecimal (place.Text n) b)
  hexadecimal n code =
      let s : State = T.hexadecimal (state_of n) code in
      pick s (is_ascii_hexdigit b) _ _ (λ _. tt) (λ a. pick s (b == 59) _ _ (λ _. tt) (λ c. flush s n (number_value code) refl (rw (a, c) refl) refl))

  decimal : (n : Mode) (code : ℕ) → Holds (T.decimal (state_of n) code) (M.decimal (place.Text n) b)
  decimal n code =
      let s : State = T.decimal (state_of n) code in
      pick s (is_ascii_digit b) _ _ (λ _. tt) (λ a. pick s (b == 59) _ _ (λ _. tt) (λ c. flush s n (number_value code) refl (rw (a, c) refl) refl))

  -- other texts

  tag_open : Holds T.tag_open (M.tag_open b)
  tag_open =
      pick T.tag_open (b == 33) _ _ (λ _. tt) (λ x. pick T.tag_open (b == 47) _ _ (λ _. tt) (λ v. pick T.tag_open (is_ascii_alphabetic b) _ _ (λ _. tt)
      (λ a. pick T.tag_open (b == 63) _ _ (λ _. tt) (λ q. given T.tag_open T.data_state (map Character (codes "<")) (rw (x, v, a, q) refl) refl))))

  abbrev less : Mode → State
  less n = T.raw_less_than_sign (raw_of n)

  after_less : (n : Mode) → (b == 47) ≡ false → Holds (less n) (M.after_less_than n b)
  after_less mode.Script k =
      pick (less mode.Script) (b == 33) _ _ (λ _. tt) (λ x. given (less mode.Script) (T.raw T.script_data) (map Character (codes "<")) (rw (k, x) refl) refl)
  after_less mode.ScriptEscaped k =
      pick (less mode.ScriptEscaped) (is_ascii_alphabetic b) _ _ (λ _. tt) (λ a. given (less mode.ScriptEscaped) (T.raw T.script_data_escaped) (map Character (codes "<")) (rw (k, a) refl) refl)
  after_less mode.Data k = given (less mode.Data) (T.raw (raw_of mode.Data)) (map Character (codes "<")) (rw k refl) refl
  after_less mode.Title k = given (less mode.Title) (T.raw (raw_of mode.Title)) (map Character (codes "<")) (rw k refl) refl
  after_less mode.Textarea k = given (less mode.Textarea) (T.raw (raw_of mode.Textarea)) (map Character (codes "<")) (rw k refl) refl
  after_less mode.ContextText k = given (less mode.ContextText) (T.raw (raw_of mode.ContextText)) (map Character (codes "<")) (rw k refl) refl
  after_less mode.Style k = given (less mode.Style) (T.raw (raw_of mode.Style)) (map Character (codes "<")) (rw k refl) refl
  after_less mode.Xmp k = given (less mode.Xmp) (T.raw (raw_of mode.Xmp)) (map Character (codes "<")) (rw k refl) refl
  after_less mode.Iframe k = given (less mode.Iframe) (T.raw (raw_of mode.Iframe)) (map Character (codes "<")) (rw k refl) refl
  after_less mode.Noembed k = given (less mode.Noembed) (T.raw (raw_of mode.Noembed)) (map Character (codes "<")) (rw k refl) refl
  after_less mode.Noframes k = given (less mode.Noframes) (T.raw (raw_of mode.Noframes)) (map Character (codes "<")) (rw k refl) refl
  after_less mode.Noscript k = given (less mode.Noscript) (T.raw (raw_of mode.Noscript)) (map Character (codes "<")) (rw k refl) refl
  after_less mode.ScriptEscapedDash k = given (less mode.ScriptEscapedDash) (T.raw (raw_of mode.ScriptEscapedDash)) (map Character (codes "<")) (rw k refl) refl
  after_less mode.ScriptEscapedDashDash k = given (less mode.ScriptEscapedDashDash) (T.raw (raw_of mode.ScriptEscapedDashDash)) (map Character (codes "<")) (rw k refl) refl
  after_less mode.Plaintext k = given (less mode.Plaintext) (T.raw (raw_of mode.Plaintext)) (map Character (codes "<")) (rw k refl) refl

  raw_less : (n : Mode) → Holds (less n) (M.raw_less_than n b)
  raw_less n = pick (less n) (b == 47) _ _ (λ _. tt) (λ k. after_less n k)

  raw_open : (n : Mode) → Holds (T.raw_end_tag_open (raw_of n)) (M.raw_end_tag_open n b)
  raw_open n =
      let s : State = T.raw_end_tag_open (raw_of n) in
      pick s (is_ascii_alphabetic b) _ _ (λ _. tt) (λ a. given s (T.raw (raw_of n)) (map Character (codes "</")) (rw a refl) refl)

  raw_name : (n : Mode) (w : List ℕ) → Holds (T.raw_end_tag_name (raw_of n) w) (M.raw_end_tag_name n w b)
  raw_name n w =
      let s : State = T.raw_end_tag_name (raw_of n) w in
      pick s (is_white_space b && M.is_own n w) _ _ (λ _. tt) (λ _. pick s ((b == 47) && M.is_own n w) _ _ (λ _. tt)
      (λ _. pick s ((b == 62) && M.is_own n w) _ _ (λ _. tt) (λ _. pick s (is_ascii_alphabetic b) _ _ (λ _. tt)
      (λ _. λ u es e. sym (name_emits n b (raw_of n) w (record { state = u; emits = es }) e)))))

  escape_start : Holds T.script_data_escape_start (M.escape_start b)
  escape_start = pick T.script_data_escape_start (b == 45) _ _ (λ _. tt) (λ n. given T.script_data_escape_start (T.raw T.script_data) [] (rw n refl) refl)

  escape_start_dash : Holds T.script_data_escape_start_dash (M.escape_start_dash b)
  escape_start_dash = pick T.script_data_escape_start_dash (b == 45) _ _ (λ _. tt) (λ n. given T.script_data_escape_start_dash (T.raw T.script_data) [] (rw n refl) refl)

  double_start : (v w : List ℕ) → Holds (T.script_data_double_escape_start v) (M.double_escape_start w b)
  double_start v w =
      let s : State = T.script_data_double_escape_start v in
      pick s (ends_name b) _ _ (λ _. pick s (M.is_script w) _ _ (λ _. tt) (λ _. tt)) (λ x. pick s (is_ascii_alphabetic b) _ _ (λ _. tt)
      (λ a. given s (T.raw T.script_data_escaped) [] (rw (x, a) refl) refl))

  -- no other piece ends before a byte

  abbrev goes : Turn → Bool
  goes (Goes c) = true
  goes (Ends k m) = false

  either : (v : Bool) (o p : Turn) → goes o ≡ true → goes p ≡ true → goes (if v then o else p) ≡ true
  either true o p h k = h
  either false o p h k = k

  on : (s : State) (o : Turn) → goes o ≡ true → Holds s o
  on s (Goes c) h = tt
  on s (Ends k m) h = absurd (true≢false (sym h))

  before_key : (tag : Tag) → goes (M.before_key tag b) ≡ true
  before_key tag = either (is_white_space b) _ _ refl (either (b == 47) _ _ refl (either (b == 62) _ _ refl refl))

  after_key : (tag : Tag) → goes (M.after_key tag b) ≡ true
  after_key tag = either (is_white_space b) _ _ refl (either (b == 47) _ _ refl (either (b == 61) _ _ refl (either (b == 62) _ _ refl refl)))

  value : (q : Quote) (tag : Tag) → goes (M.value q tag b) ≡ true
  value quote.Double tag = either (b == 34) _ _ refl (either (b == 38) _ _ refl refl)
  value quote.Single tag = either (b == 39) _ _ refl (either (b == 38) _ _ refl refl)
  value quote.Absent tag = either (is_white_space b) _ _ refl (either (b == 38) _ _ refl (either (b == 62) _ _ refl refl))

  before_value : (tag : Tag) → goes (M.before_value tag b) ≡ true
  before_value tag =
      either (is_white_space b) _ _ refl (either (b == 34) _ _ refl (either (b == 39) _ _ refl (either (b == 62) _ _ refl (value quote.Absent tag))))

  number_end : (q : Quote) (tag : Tag) → goes (M.number_end (place.Value q tag) b) ≡ true
  number_end q tag = either (b == 59) _ _ refl (value q tag)

  in_comment : goes (M.comment b) ≡ true
  in_comment = either (b == 60) _ _ refl (either (b == 45) _ _ refl refl)

  end_dash : goes (M.comment_end_dash b) ≡ true
  end_dash = either (b == 45) _ _ refl in_comment

  comment_end : goes (M.comment_end b) ≡ true
  comment_end = either (b == 62) _ _ refl (either (b == 33) _ _ refl (either (b == 45) _ _ refl in_comment))

  bogus : goes (M.bogus_comment b) ≡ true
  bogus = either (b == 62) _ _ refl refl

  double_escaped : goes (M.double_escaped b) ≡ true
  double_escaped = either (b == 45) _ _ refl (either (b == 60) _ _ refl refl)

  declared : (w : List ℕ) → goes (M.resolve_declaration w b) ≡ true
  declared w =
      either (bytes_eq w (codes "--")) _ _ refl (either (bytes_eq (map to_ascii_lowercase w) (codes "doctype")) _ _ refl
      (either (T.begins (codes "--") w || T.begins (codes "doctype") w) _ _ refl bogus))

  pub pends : (c : Stage) (w : List ℕ) (s : State) (ts : List HtmlToken) → IsStage w c s ts → IsBegun c → Holds s (M.turn c w b)
  pends (stage.Whole k m) w s ts h g = absurd g
  pends (stage.Reference (place.Text n)) w s ts (r, h, e, t) g = subst (λ (x : State). Holds x (M.reference (place.Text n) b)) (sym (e ∙ ap T.character_reference h)) (reference n)
  pends (stage.NamedReference (place.Text n)) w s ts (r, buffer, some, h, e, t) g =
      subst (λ (x : State). Holds x (M.named_reference (place.Text n) b)) (sym (e ∙ ap (λ x. T.named_character_reference x buffer) h)) (named_ends n buffer some)
  pends (stage.NumericReference (place.Text n)) w s ts (r, h, e, t) g =
      subst (λ (x : State). Holds x (M.numeric_reference (place.Text n) b)) (sym (e ∙ ap T.numeric_character_reference h)) (numeric n)
  pends (stage.HexadecimalStart (place.Text n)) w s ts (r, x, h, e, t) g =
      subst (λ (y : State). Holds y (M.hexadecimal_start (place.Text n) b)) (sym (e ∙ ap (λ y. T.hexadecimal_start y x) h)) (hexadecimal_start n x)
  pends (stage.DecimalStart (place.Text n)) w s ts (r, h, e, t) g =
      subst (λ (x : State). Holds x (M.decimal_start (place.Text n) b)) (sym (e ∙ ap T.decimal_start h)) (decimal_start n)
  pends (stage.Hexadecimal (place.Text n)) w s ts (r, code, h, e, t) g =
      subst (λ (x : State). Holds x (M.hexadecimal (place.Text n) b)) (sym (e ∙ ap (λ x. T.hexadecimal x code) h)) (hexadecimal n code)
  pends (stage.Decimal (place.Text n)) w s ts (r, code, h, e, t) g =
      subst (λ (x : State). Holds x (M.decimal (place.Text n) b)) (sym (e ∙ ap (λ x. T.decimal x code) h)) (decimal n code)
  pends (stage.Reference (place.Value q tag)) w s ts h g = on s _ (either (is_ascii_alphanumeric b) _ _ refl (either (b == 35) _ _ refl (value q tag)))
  pends (stage.NamedReference (place.Value q tag)) w s ts h g = on s _ (either (is_ascii_alphanumeric b) _ _ refl (either (b == 59) _ _ refl (value q tag)))
  pends (stage.NumericReference (place.Value q tag)) w s ts h g =
      on s _ (either (to_ascii_lowercase b == 120) _ _ refl (either (is_ascii_digit b) _ _ refl (value q tag)))
  pends (stage.HexadecimalStart (place.Value q tag)) w s ts h g = on s _ (either (is_ascii_hexdigit b) _ _ refl (value q tag))
  pends (stage.DecimalStart (place.Value q tag)) w s ts h g = on s _ (either (is_ascii_digit b) _ _ refl (value q tag))
  pends (stage.Hexadecimal (place.Value q tag)) w s ts h g = on s _ (either (is_ascii_hexdigit b) _ _ refl (number_end q tag))
  pends (stage.Decimal (place.Value q tag)) w s ts h g = on s _ (either (is_ascii_digit b) _ _ refl (number_end q tag))
  pends stage.TagOpen w s ts (x, e, t) g = subst (λ (y : State). Holds y (M.tag_open b)) (sym e) tag_open
  pends stage.EndTagOpen w s ts h g = on s _ (either (is_ascii_alphabetic b) _ _ refl (either (b == 62) _ _ refl refl))
  pends (stage.TagName is_end) w s ts h g = on s _ (either (is_white_space b) _ _ refl (either (b == 47) _ _ refl (either (b == 62) _ _ refl refl)))
  pends (stage.RawLessThan n) w s ts (r, x, e, t) g = subst (λ (y : State). Holds y (M.raw_less_than n b)) (sym e) (raw_less n)
  pends (stage.RawEndTagOpen n) w s ts (r, x, e, t) g = subst (λ (y : State). Holds y (M.raw_end_tag_open n b)) (sym e) (raw_open n)
  pends (stage.RawEndTagName n) w s ts (r, e, t) g = subst (λ (y : State). Holds y (M.raw_end_tag_name n w b)) (sym e) (raw_name n w)
  pends stage.EscapeStart w s ts (e, t) g = subst (λ (y : State). Holds y (M.escape_start b)) (sym e) escape_start
  pends stage.EscapeStartDash w s ts (e, t) g = subst (λ (y : State). Holds y (M.escape_start_dash b)) (sym e) escape_start_dash
  pends stage.DoubleEscapeStart w s ts (e, t) g = subst (λ (y : State). Holds y (M.double_escape_start w b)) (sym e) (double_start (map to_ascii_lowercase w) w)
  pends stage.DoubleEscaped w s ts h g = on s _ double_escaped
  pends stage.DoubleEscapedDash w s ts h g = on s _ (either (b == 45) _ _ refl (either (b == 60) _ _ refl refl))
  pends stage.DoubleEscapedDashDash w s ts h g = on s _ (either (b == 45) _ _ refl (either (b == 60) _ _ refl (either (b == 62) _ _ refl refl)))
  pends stage.DoubleEscapedLessThan w s ts h g = on s _ (either (b == 47) _ _ refl double_escaped)
  pends stage.DoubleEscapeEnd w s ts h g =
      on s _ (either (ends_name b) _ _ (either (M.is_script (drop 1 w)) _ _ refl refl) (either (is_ascii_alphabetic b) _ _ refl double_escaped))
  pends (stage.BeforeKey tag) w s ts h g = on s _ (before_key tag)
  pends (stage.Key tag) w s ts h g = on s _ (either (ends_name b) _ _ (after_key tag) (either (b == 61) _ _ refl refl))
  pends (stage.AfterKey tag) w s ts h g = on s _ (after_key tag)
  pends (stage.BeforeValue tag) w s ts h g = on s _ (before_value tag)
  pends (stage.Value q tag) w s ts h g = on s _ (value q tag)
  pends (stage.AfterValue tag) w s ts h g = on s _ (either (is_white_space b) _ _ refl (either (b == 47) _ _ refl (either (b == 62) _ _ refl (before_key tag))))
  pends (stage.SelfClosing tag) w s ts h g = on s _ (either (b == 62) _ _ refl (before_key tag))
  pends stage.BogusComment w s ts h g = on s _ bogus
  pends stage.Declaration w s ts h g = on s _ (either (b == 10) _ _ bogus (declared (drop 1 (w ++ b ∷ []))))
  pends stage.CommentStart w s ts h g = on s _ (either (b == 45) _ _ refl (either (b == 62) _ _ refl in_comment))
  pends stage.CommentStartDash w s ts h g = on s _ (either (b == 45) _ _ refl (either (b == 62) _ _ refl in_comment))
  pends stage.Comment w s ts h g = on s _ in_comment
  pends stage.CommentLessThan w s ts h g = on s _ (either (b == 33) _ _ refl (either (b == 60) _ _ refl in_comment))
  pends stage.CommentBang w s ts h g = on s _ (either (b == 45) _ _ refl in_comment)
  pends stage.CommentBangDash w s ts h g = on s _ (either (b == 45) _ _ refl end_dash)
  pends stage.CommentBangDashDash w s ts h g = on s _ comment_end
  pends stage.CommentEndDash w s ts h g = on s _ end_dash
  pends stage.CommentEnd w s ts h g = on s _ comment_end
  pends stage.CommentEndBang w s ts h g = on s _ (either (b == 45) _ _ refl (either (b == 62) _ _ refl in_comment))
  pends stage.Doctype w s ts h g = on s _ (either (b == 62) _ _ refl refl)
