-- Stages from which no tag comes.
use Rattle.std.proofs.Common.{◌≡◌, ℕ, Bool, true, false, ◌==◌, ◌&&◌, List, [], ◌∷◌, ◌++◌, drop, Some, None, refl, ap, sym, subst, ◌∙◌, inl, inr, true≢false, append-nil, append_assoc, if◌then◌else◌}
use Rattle.std.specs.Prelude.{⊤, ◌||◌, codes, map}
use Rattle.std.specs.Char.{is_ascii_alphabetic, is_ascii_alphanumeric, is_ascii_digit, is_ascii_hexdigit, to_ascii_lowercase}
use Rattle.std.specs.Str.{bytes_eq}
use Rattle.std.proofs.lemmas.Bool.{cases_Bool, eqb-true}
use Rattle.tl_html_spec.specs.HtmlTokenizer.{HtmlToken, Character, StartTag, EndTag, CommentToken, DoctypeToken, State, Step, at_end, begins, ends_name}
use Rattle.tl_html_spec.specs.Pieces.{are_characters}
use Rattle.tl_html_spec.specs.Reader.{Reader, Rest, feed, is_at_rest, next, read, rest_before, resting, tokens_of}
use Rattle.tl_html_tokens.specs.Kinds.{IsKind}
use Rattle.tl_html_tokens.specs.Inner.Machine as M
use Rattle.tl_html_tokens.specs.Modes.{state_of}
use Rattle.tl_html_tokens.specs.Inner.Stages.{has_word, kind_at_end}
use Rattle.tl_html_tokens.specs.Whole.{is_tag_kind}
use Rattle.tl_html_tokens.specs.declared.mode.Mode.{Mode}
use Rattle.tl_html_tokens.specs.declared.stage.TokenKind.{TokenKind}
use Rattle.tl_html_tokens.specs.declared.stage.TokenKind.TheVariants as kind
use Rattle.tl_html_tokens.specs.declared.stage.Place.{Place}
use Rattle.tl_html_tokens.specs.declared.stage.Place.TheVariants as place
use Rattle.tl_html_tokens.specs.declared.stage.Stage.{Stage}
use Rattle.tl_html_tokens.specs.declared.stage.Stage.TheVariants as stage
use Rattle.tl_html_tokens.specs.declared.stage.Turn.{Turn}
use Rattle.tl_html_tokens.specs.declared.stage.Turn.TheVariants.{Goes, Ends}
use Rattle.tl_html_tokens.proofs.Ending.{end_kind}
use Rattle.tl_html_tokens.proofs.Reading.{begun_or, ends_word, keeps_word, no_rest, read_passed, read_plain, reader, rest_plain}
use Rattle.tl_html_tokens.proofs.Steps.{IsBegun, IsStage, met, next_word, rests}
use Rattle.tl_html_tokens.proofs.Turns.{Turned, rest_here, turned}

-- one tag
abbrev pub is_tag : List HtmlToken → Bool
is_tag (StartTag name attributes closes ∷ []) = true
is_tag (EndTag name ∷ []) = true
is_tag _ = false

pub chars_no_tag : (ts : List HtmlToken) → are_characters ts ≡ true → is_tag ts ≡ false
chars_no_tag [] h = refl
chars_no_tag (Character b ∷ ts) h = refl
chars_no_tag (StartTag n a c ∷ ts) h = absurd (true≢false (sym h))
chars_no_tag (EndTag n ∷ ts) h = absurd (true≢false (sym h))
chars_no_tag (CommentToken n ∷ ts) h = refl
chars_no_tag (DoctypeToken ∷ ts) h = refl

comment_no_tag : (ts : List HtmlToken) → IsKind kind.Comment ts → is_tag ts ≡ false
comment_no_tag [] h = refl
comment_no_tag (Character b ∷ ts) h = refl
comment_no_tag (StartTag n a c ∷ ts) h = absurd h
comment_no_tag (EndTag n ∷ ts) h = absurd h
comment_no_tag (CommentToken n ∷ ts) h = refl
comment_no_tag (DoctypeToken ∷ ts) h = refl

doctype_no_tag : (ts : List HtmlToken) → IsKind kind.Doctype ts → is_tag ts ≡ false
doctype_no_tag [] h = refl
doctype_no_tag (Character b ∷ ts) h = refl
doctype_no_tag (StartTag n a c ∷ ts) h = absurd h
doctype_no_tag (EndTag n ∷ ts) h = absurd h
doctype_no_tag (CommentToken n ∷ ts) h = refl
doctype_no_tag (DoctypeToken ∷ ts) h = refl

pub other_no_tag : (k : TokenKind) (ts : List HtmlToken) → is_tag_kind k ≡ false → IsKind k ts → is_tag ts ≡ false
other_no_tag kind.Text ts e h = chars_no_tag ts h
other_no_tag kind.StartTag ts e h = absurd (true≢false e)
other_no_tag kind.EndTag ts e h = absurd (true≢false e)
other_no_tag kind.Comment ts e h = comment_no_tag ts h
other_no_tag kind.Doctype ts e h = doctype_no_tag ts h
other_no_tag kind.Nothing ts e h = ap is_tag h

-- whether a tag may come of a stage

abbrev pub place_leads : Place → Bool
place_leads (place.Text m) = false
place_leads (place.Value q tag) = true

abbrev pub leads : Stage → Bool
leads (stage.Whole k m) = is_tag_kind k
leads (stage.Reference p) = place_leads p
leads (stage.NamedReference p) = place_leads p
leads (stage.NumericReference p) = place_leads p
leads (stage.HexadecimalStart p) = place_leads p
leads (stage.DecimalStart p) = place_leads p
leads (stage.Hexadecimal p) = place_leads p
leads (stage.Decimal p) = place_leads p
leads stage.TagOpen = true
leads stage.EndTagOpen = true
leads (stage.TagName is_end) = true
leads (stage.RawLessThan m) = true
leads (stage.RawEndTagOpen m) = true
leads (stage.RawEndTagName m) = true
leads (stage.BeforeKey tag) = true
leads (stage.Key tag) = true
leads (stage.AfterKey tag) = true
leads (stage.BeforeValue tag) = true
leads (stage.Value q tag) = true
leads (stage.AfterValue tag) = true
leads (stage.SelfClosing tag) = true
leads _ = false

-- and of what a byte does
abbrev pub turn_leads : Turn → Bool
turn_leads (Goes c) = leads c
turn_leads (Ends k m) = is_tag_kind k

pub record IsOther (o : Turn) : Type 0 where
  pub no : turn_leads o ≡ false

pick : (v : Bool) (o p : Turn) → IsOther o → IsOther p → IsOther (if v then o else p)
pick true o p h k = h
pick false o p h k = k

-- a piece that the end of a page ends is no tag
end_other : (c : Stage) → leads c ≡ false → is_tag_kind (kind_at_end c) ≡ false
end_other (stage.Whole k m) h = h
end_other (stage.Reference (place.Text m)) h = refl
end_other (stage.Reference (place.Value q tag)) h = refl
end_other (stage.NamedReference (place.Text m)) h = refl
end_other (stage.NamedReference (place.Value q tag)) h = refl
end_other (stage.NumericReference (place.Text m)) h = refl
end_other (stage.NumericReference (place.Value q tag)) h = refl
end_other (stage.HexadecimalStart (place.Text m)) h = refl
end_other (stage.HexadecimalStart (place.Value q tag)) h = refl
end_other (stage.DecimalStart (place.Text m)) h = refl
end_other (stage.DecimalStart (place.Value q tag)) h = refl
end_other (stage.Hexadecimal (place.Text m)) h = refl
end_other (stage.Hexadecimal (place.Value q tag)) h = refl
end_other (stage.Decimal (place.Text m)) h = refl
end_other (stage.Decimal (place.Value q tag)) h = refl
end_other _ h = refl

-- turns

in_text : (p : Place) → place_leads p ≡ false → (m : Mode) × (p ≡ place.Text m)
in_text (place.Text m) h = (m, refl)
in_text (place.Value q tag) h = absurd (true≢false h)

module _ (b : ℕ) where
  reference_turn : (m : Mode) → IsOther (M.reference (place.Text m) b)
  reference_turn m = pick (is_ascii_alphanumeric b) _ _ (record { no = refl }) (pick (b == 35) _ _ (record { no = refl }) (record { no = refl }))

  named_turn : (m : Mode) → IsOther (M.named_reference (place.Text m) b)
  named_turn m = pick (is_ascii_alphanumeric b) _ _ (record { no = refl }) (pick (b == 59) _ _ (record { no = refl }) (record { no = refl }))

  numeric_turn : (m : Mode) → IsOther (M.numeric_reference (place.Text m) b)
  numeric_turn m = pick (to_ascii_lowercase b == 120) _ _ (record { no = refl }) (pick (is_ascii_digit b) _ _ (record { no = refl }) (record { no = refl }))

  hexadecimal_start_turn : (m : Mode) → IsOther (M.hexadecimal_start (place.Text m) b)
  hexadecimal_start_turn m = pick (is_ascii_hexdigit b) _ _ (record { no = refl }) (record { no = refl })

  decimal_start_turn : (m : Mode) → IsOther (M.decimal_start (place.Text m) b)
  decimal_start_turn m = pick (is_ascii_digit b) _ _ (record { no = refl }) (record { no = refl })

  hexadecimal_turn : (m : Mode) → IsOther (M.hexadecimal (place.Text m) b)
  hexadecimal_turn m = pick (is_ascii_hexdigit b) _ _ (record { no = refl }) (pick (b == 59) _ _ (record { no = refl }) (record { no = refl }))

  decimal_turn : (m : Mode) → IsOther (M.decimal (place.Text m) b)
  decimal_turn m = pick (is_ascii_digit b) _ _ (record { no = refl }) (pick (b == 59) _ _ (record { no = refl }) (record { no = refl }))

  comment_turn : IsOther (M.comment b)
  comment_turn = pick (b == 60) _ _ (record { no = refl }) (pick (b == 45) _ _ (record { no = refl }) (record { no = refl }))

  bogus_turn : IsOther (M.bogus_comment b)
  bogus_turn = pick (b == 62) _ _ (record { no = refl }) (record { no = refl })

  declaration_turn : (w : List ℕ) → IsOther (M.declaration w b)
  declaration_turn w = pick (b == 10) _ _ bogus_turn (pick (bytes_eq (drop 1 (w ++ b ∷ [])) (codes "--")) _ _ (record { no = refl }) (pick (bytes_eq (map to_ascii_lowercase (drop 1 (w ++ b ∷ []))) (codes "doctype")) _ _ (record { no = refl }) (pick (begins (codes "--") (drop 1 (w ++ b ∷ [])) || begins (codes "doctype") (drop 1 (w ++ b ∷ []))) _ _ (record { no = refl }) bogus_turn)))

  double_escaped_turn : IsOther (M.double_escaped b)
  double_escaped_turn = pick (b == 45) _ _ (record { no = refl }) (pick (b == 60) _ _ (record { no = refl }) (record { no = refl }))

  comment_end_dash_turn : IsOther (M.comment_end_dash b)
  comment_end_dash_turn = pick (b == 45) _ _ (record { no = refl }) comment_turn

  comment_end_turn : IsOther (M.comment_end b)
  comment_end_turn = pick (b == 62) _ _ (record { no = refl }) (pick (b == 33) _ _ (record { no = refl }) (pick (b == 45) _ _ (record { no = refl }) comment_turn))

  by_place : (f : Place → ℕ → Turn) → ((m : Mode) → IsOther (f (place.Text m) b)) → (p : Place) → place_leads p ≡ false → IsOther (f p b)
  by_place f h (place.Text m) e = h m
  by_place f h (place.Value q tag) e = absurd (true≢false e)

  pub turn_other : (c : Stage) (w : List ℕ) → leads c ≡ false → IsOther (M.turn c w b)
  turn_other (stage.Whole k m) w h = record { no = h }
  turn_other (stage.Reference p) w h = by_place M.reference reference_turn p h
  turn_other (stage.NamedReference p) w h = by_place M.named_reference named_turn p h
  turn_other (stage.NumericReference p) w h = by_place M.numeric_reference numeric_turn p h
  turn_other (stage.HexadecimalStart p) w h = by_place M.hexadecimal_start hexadecimal_start_turn p h
  turn_other (stage.DecimalStart p) w h = by_place M.decimal_start decimal_start_turn p h
  turn_other (stage.Hexadecimal p) w h = by_place M.hexadecimal hexadecimal_turn p h
  turn_other (stage.Decimal p) w h = by_place M.decimal decimal_turn p h
  turn_other stage.EscapeStart w h = pick (b == 45) _ _ (record { no = refl }) (record { no = refl })
  turn_other stage.EscapeStartDash w h = pick (b == 45) _ _ (record { no = refl }) (record { no = refl })
  turn_other stage.DoubleEscapeStart w h = pick (ends_name b) _ _ (pick (M.is_script w) _ _ (record { no = refl }) (record { no = refl })) (pick (is_ascii_alphabetic b) _ _ (record { no = refl }) (record { no = refl }))
  turn_other stage.DoubleEscaped w h = double_escaped_turn
  turn_other stage.DoubleEscapedDash w h = pick (b == 45) _ _ (record { no = refl }) (pick (b == 60) _ _ (record { no = refl }) (record { no = refl }))
  turn_other stage.DoubleEscapedDashDash w h = pick (b == 45) _ _ (record { no = refl }) (pick (b == 60) _ _ (record { no = refl }) (pick (b == 62) _ _ (record { no = refl }) (record { no = refl })))
  turn_other stage.DoubleEscapedLessThan w h = pick (b == 47) _ _ (record { no = refl }) double_escaped_turn
  turn_other stage.DoubleEscapeEnd w h = pick (ends_name b) _ _ (pick (M.is_script (drop 1 w)) _ _ (record { no = refl }) (record { no = refl })) (pick (is_ascii_alphabetic b) _ _ (record { no = refl }) double_escaped_turn)
  turn_other stage.BogusComment w h = bogus_turn
  turn_other stage.Declaration w h = declaration_turn w
  turn_other stage.CommentStart w h = pick (b == 45) _ _ (record { no = refl }) (pick (b == 62) _ _ (record { no = refl }) comment_turn)
  turn_other stage.CommentStartDash w h = pick (b == 45) _ _ (record { no = refl }) (pick (b == 62) _ _ (record { no = refl }) comment_turn)
  turn_other stage.Comment w h = comment_turn
  turn_other stage.CommentLessThan w h = pick (b == 33) _ _ (record { no = refl }) (pick (b == 60) _ _ (record { no = refl }) comment_turn)
  turn_other stage.CommentBang w h = pick (b == 45) _ _ (record { no = refl }) comment_turn
  turn_other stage.CommentBangDash w h = pick (b == 45) _ _ (record { no = refl }) comment_end_dash_turn
  turn_other stage.CommentBangDashDash w h = comment_end_turn
  turn_other stage.CommentEndDash w h = comment_end_dash_turn
  turn_other stage.CommentEnd w h = comment_end_turn
  turn_other stage.CommentEndBang w h = pick (b == 45) _ _ (record { no = refl }) (pick (b == 62) _ _ (record { no = refl }) comment_turn)
  turn_other stage.Doctype w h = pick (b == 62) _ _ (record { no = refl }) (record { no = refl })
  turn_other stage.TagOpen w h = absurd (true≢false h)
  turn_other stage.EndTagOpen w h = absurd (true≢false h)
  turn_other (stage.TagName is_end) w h = absurd (true≢false h)
  turn_other (stage.RawLessThan m) w h = absurd (true≢false h)
  turn_other (stage.RawEndTagOpen m) w h = absurd (true≢false h)
  turn_other (stage.RawEndTagName m) w h = absurd (true≢false h)
  turn_other (stage.BeforeKey tag) w h = absurd (true≢false h)
  turn_other (stage.Key tag) w h = absurd (true≢false h)
  turn_other (stage.AfterKey tag) w h = absurd (true≢false h)
  turn_other (stage.BeforeValue tag) w h = absurd (true≢false h)
  turn_other (stage.Value q tag) w h = absurd (true≢false h)
  turn_other (stage.AfterValue tag) w h = absurd (true≢false h)
  turn_other (stage.SelfClosing tag) w h = absurd (true≢false h)

-- the machine is at rest before none of these bytes
abbrev pub Restless : Reader → List ℕ → Type 0
Restless r [] = ⊤
Restless r (b ∷ text) = (rest_before r b ≡ None) × Restless (next r b) text

-- a stage with what was emitted, and whether a carriage return stands right before
pub record IsAt (c : Stage) (w : List ℕ) (s : State) (v : Bool) (ts : List HtmlToken) : Type 0 where
  pub stage : IsStage w c s ts
  pub returned : v ≡ true → has_word c ≡ false

pub apart : (x : Rest) → None ≡ Some x → ⊥
apart x e = cc

-- where the piece goes on with a byte
pub record Next (c : Stage) (w : List ℕ) (s : State) (v : Bool) (ts : List HtmlToken) (b : ℕ) : Type 0 where
  pub to : Stage
  pub word : List ℕ
  pub here : IsAt to word (next (reader s v) b).state (b == 13) (ts ++ (read (reader s v) b).emits)
  pub keeps : turn_leads (M.turn c w (feed b)) ≡ false → leads c ≡ false → leads to ≡ false
  pub turns : (v && (b == 10)) ≡ false → M.turn c w (feed b) ≡ Goes to

no_feed : (c d : Stage) (w : List ℕ) (b : ℕ) → M.turn c w (feed b) ≡ Goes d → (b == 13) ≡ true → has_word d ≡ false
no_feed c d w b e y =
    sym (ap keeps_word e) ∙ ap (λ x. keeps_word (M.turn c w (feed x))) (eqb-true b 13 y) ∙ ends_word c w

pub go : (c : Stage) (w : List ℕ) (s : State) (v : Bool) (ts : List HtmlToken) (b : ℕ) → IsAt c w s v ts → rest_before (reader s v) b ≡ None → Next c w s v ts b
go c w s v ts b h n = elim (cases_Bool (v && (b == 10))) [
  | inl y ↦ (
      let is = read_passed s v b y in
      let ten : (b == 13) ≡ false = ap (λ x. x == 13) (eqb-true b 10 (second v (b == 10) y)) in
      record {
        to = c;
        word = w;
        here = record {
          stage = subst (λ (x : Step). IsStage w c x.next (ts ++ x.emits)) (sym is) (subst (IsStage w c s) (sym (append-nil ts)) h.stage);
          returned = λ r. absurd (true≢false (sym r ∙ ten));
        };
        keeps = λ _ e. e;
        turns = λ e. absurd (true≢false (sym y ∙ e));
      })
  | inr p ↦ elim (begun_or c) [
    | inl g ↦ by_turn p g (M.turn c w (feed b)) refl (turned (feed b) w 2 ts s (M.turn c w (feed b)) (no_rest w c s ts h.stage g) (met (feed b) w c s ts h.stage g))
    | inr q ↦ (
        let st = subst (λ (d : Stage). IsStage w d s ts) q.2 h.stage in
        let r : is_at_rest s ≡ true = ap is_at_rest st.0 ∙ rests q.1 in
        absurd (apart (resting s) (sym n ∙ rest_plain s v b p ∙ rest_here (feed b) w 2 s r)))
  ]
]
  where
    second : (x y : Bool) → (x && y) ≡ true → y ≡ true
    second true y h = h
    second false y h = absurd (true≢false (sym h))

    by_turn : (v && (b == 10)) ≡ false → IsBegun c → (o : Turn) → M.turn c w (feed b) ≡ o → Turned (feed b) w 2 ts s o → Next c w s v ts b
    by_turn p g (Goes d) e t =
        let is = read_plain s v b p in
        record {
          to = d;
          word = next_word d w (feed b);
          here = record {
            stage = subst (λ (x : Step). IsStage (next_word d w (feed b)) d x.next (ts ++ x.emits)) (sym is) t.1;
            returned = λ r. no_feed c d w b e r;
          };
          keeps = λ k _. sym (ap turn_leads e) ∙ k;
          turns = λ _. e;
        }
    by_turn p g (Ends k m) e t =
        absurd (apart (record { state = state_of m; emits = t.0 }) (sym n ∙ rest_plain s v b p ∙ t.1))

-- from a stage that leads to no tag none comes
pub no_tag : (text : List ℕ) (c : Stage) (w : List ℕ) (s : State) (v : Bool) (ts : List HtmlToken) → IsAt c w s v ts → leads c ≡ false → Restless (reader s v) text →
    is_tag (ts ++ tokens_of (reader s v) text) ≡ false
no_tag [] c w s v ts h e n = other_no_tag (kind_at_end c) (ts ++ at_end s) (end_other c e) (end_kind w c s ts h.stage)
no_tag (b ∷ text) c w s v ts h e n =
    let x : Next c w s v ts b = go c w s v ts b h n.0 in
    ap is_tag (sym (append_assoc ts (read (reader s v) b).emits (tokens_of (next (reader s v) b) text)))
    ∙ no_tag text x.to x.word (next (reader s v) b).state (b == 13) (ts ++ (read (reader s v) b).emits) x.here (x.keeps (turn_other (feed b) c w e).no e) n.1
