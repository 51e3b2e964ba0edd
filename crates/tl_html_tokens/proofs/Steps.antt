-- What a byte does at a stage is what it does in the state.
use Rattle.std.proofs.Common.{◌≡◌, ℕ, zero, suc, Bool, true, false, not, ◌==◌, ◌&&◌, ◌||◌, List, [], ◌∷◌, ◌++◌, drop, map, codes, refl, ap, ap₂, sym, subst, ◌∙◌, inl, inr, true≢false, arith, append-nil, append_assoc, if◌then◌else◌}
use Rattle.std.specs.Prelude.{⊤, ◌+◌, ◌*◌, IfSome, Option, Some}
use Rattle.std.specs.Char.{is_ascii_alphabetic, is_ascii_alphanumeric, is_ascii_digit, is_ascii_hexdigit, to_ascii_lowercase}
use Rattle.std.specs.List.{list_all, list_any, starts_with}
use Rattle.std.specs.Str.{bytes_eq, str_eq_ignore_ascii_case}
use Rattle.std.proofs.lemmas.Bool.{and_parts, cases_Bool, cond_both, eqb-true}
use Rattle.std.proofs.lemmas.Slice.Eq.{bytes_eq-Decides}
use Rattle.tl_html_spec.specs.References.{named_value, number_value}
use Rattle.tl_html_spec.specs.HtmlTokenizer as T
use Rattle.tl_html_spec.specs.HtmlTokenizer.{HtmlAttribute, HtmlToken, Character, StartTag, EndTag, CommentToken, DoctypeToken, OpenTag, Raw, State, Step, char_of, ends_name, is_white_space, step}
use Rattle.tl_html_spec.specs.Pieces.{are_characters}
use Rattle.tl_html_spec.specs.Reader.{is_at_rest}
use Rattle.tl_html_spec.specs.Sound.{IsSome}
use Rattle.tl_html_tokens.specs.Kinds.{IsKind}
use Rattle.tl_html_tokens.specs.Inner.Machine as M
use Rattle.tl_html_tokens.specs.Modes.{letters, mode_after, mode_inside, own_name, rawtext_mode, rcdata_mode, state_of}
use Rattle.tl_html_tokens.specs.Inner.Stages.{has_word}
use Rattle.tl_html_tokens.specs.declared.mode.Mode.{Mode}
use Rattle.tl_html_tokens.specs.declared.mode.Mode.TheVariants as mode
use Rattle.tl_html_tokens.specs.declared.stage.TokenKind.TheVariants as kind
use Rattle.tl_html_tokens.specs.declared.stage.Tag.{Tag}
use Rattle.tl_html_tokens.specs.declared.stage.Quote.{Quote}
use Rattle.tl_html_tokens.specs.declared.stage.Quote.TheVariants as quote
use Rattle.tl_html_tokens.specs.declared.stage.Place.{Place}
use Rattle.tl_html_tokens.specs.declared.stage.Place.TheVariants as place
use Rattle.tl_html_tokens.specs.declared.stage.Stage.{Stage}
use Rattle.tl_html_tokens.specs.declared.stage.Stage.TheVariants as stage
use Rattle.tl_html_tokens.specs.declared.stage.Turn.{Turn}
use Rattle.tl_html_tokens.specs.declared.stage.Turn.TheVariants.{Goes, Ends}
use Rattle.tl_html_tokens.proofs.Nonempty.{named_value_some, number_value_some}

-- the states that a stage stands for

-- a raw text's; of another mode any
abbrev pub raw_of : Mode → Raw
raw_of mode.Title = T.rcdata (codes "title")
raw_of mode.Textarea = T.rcdata (codes "textarea")
raw_of mode.ContextText = T.rcdata []
raw_of mode.Style = T.rawtext (codes "style")
raw_of mode.Xmp = T.rawtext (codes "xmp")
raw_of mode.Iframe = T.rawtext (codes "iframe")
raw_of mode.Noembed = T.rawtext (codes "noembed")
raw_of mode.Noframes = T.rawtext (codes "noframes")
raw_of mode.Noscript = T.rawtext (codes "noscript")
raw_of mode.Script = T.script_data
raw_of mode.ScriptEscaped = T.script_data_escaped
raw_of mode.ScriptEscapedDash = T.script_data_escaped_dash
raw_of mode.ScriptEscapedDashDash = T.script_data_escaped_dash_dash
raw_of mode.Data = T.rcdata []
raw_of mode.Plaintext = T.rcdata []

abbrev pub IsRaw : Mode → Type 0
IsRaw m = state_of m ≡ T.raw (raw_of m)

-- the state after a tag
abbrev pub after_tag : OpenTag → State
after_tag tag = if tag.is_end then T.data_state else T.after_start tag.name

pub record IsTag (tag : Tag) (open_tag : OpenTag) : Type 0 where
  pub end : open_tag.is_end ≡ tag.is_end
  pub goes_on : after_tag open_tag ≡ state_of tag.mode

abbrev pub IsValue : Quote → OpenTag → List ℕ → List ℕ → State → Type 0
IsValue quote.Double tag key value s = s ≡ T.double_quoted tag key value
IsValue quote.Single tag key value s = s ≡ T.single_quoted tag key value
IsValue quote.Absent tag key value s = s ≡ T.unquoted tag key value

-- the state that a reference returns to
abbrev pub IsPlace : Place → State → Type 0
IsPlace (place.Text m) s = s ≡ state_of m
IsPlace (place.Value q tag) s = (open_tag : OpenTag) × (key : List ℕ) × (value : List ℕ) × IsTag tag open_tag × IsValue q open_tag key value s

-- a stage with the bytes of its word, the state that it stands for, and what the piece has emitted
abbrev pub IsStage : List ℕ → Stage → State → List HtmlToken → Type 0
IsStage w (stage.Whole k m) s ts = (s ≡ state_of m) × IsKind k ts
IsStage w (stage.Reference p) s ts = (r : State) × IsPlace p r × (s ≡ T.character_reference r) × (ts ≡ [])
IsStage w (stage.NamedReference p) s ts = (r : State) × (buffer : List ℕ) × IsSome buffer × IsPlace p r × (s ≡ T.named_character_reference r buffer) × (ts ≡ [])
IsStage w (stage.NumericReference p) s ts = (r : State) × IsPlace p r × (s ≡ T.numeric_character_reference r) × (ts ≡ [])
IsStage w (stage.HexadecimalStart p) s ts = (r : State) × (x : ℕ) × IsPlace p r × (s ≡ T.hexadecimal_start r x) × (ts ≡ [])
IsStage w (stage.DecimalStart p) s ts = (r : State) × IsPlace p r × (s ≡ T.decimal_start r) × (ts ≡ [])
IsStage w (stage.Hexadecimal p) s ts = (r : State) × (code : ℕ) × IsPlace p r × (s ≡ T.hexadecimal r code) × (ts ≡ [])
IsStage w (stage.Decimal p) s ts = (r : State) × (code : ℕ) × IsPlace p r × (s ≡ T.decimal r code) × (ts ≡ [])
IsStage w stage.TagOpen s ts = (w ≡ []) × (s ≡ T.tag_open) × (ts ≡ [])
IsStage w stage.EndTagOpen s ts = (w ≡ []) × (s ≡ T.end_tag_open) × (ts ≡ [])
IsStage w (stage.TagName is_end) s ts = (s ≡ T.tag_name (record { is_end = is_end; name = letters w; attributes = [] })) × (ts ≡ [])
IsStage w (stage.RawLessThan m) s ts = IsRaw m × (w ≡ []) × (s ≡ T.raw_less_than_sign (raw_of m)) × (ts ≡ [])
IsStage w (stage.RawEndTagOpen m) s ts = IsRaw m × (w ≡ []) × (s ≡ T.raw_end_tag_open (raw_of m)) × (ts ≡ [])
IsStage w (stage.RawEndTagName m) s ts = IsRaw m × (s ≡ T.raw_end_tag_name (raw_of m) w) × (ts ≡ [])
IsStage w stage.EscapeStart s ts = (s ≡ T.script_data_escape_start) × (are_characters ts ≡ true)
IsStage w stage.EscapeStartDash s ts = (s ≡ T.script_data_escape_start_dash) × (are_characters ts ≡ true)
IsStage w stage.DoubleEscapeStart s ts = (s ≡ T.script_data_double_escape_start (map to_ascii_lowercase w)) × (are_characters ts ≡ true)
IsStage w stage.DoubleEscaped s ts = (s ≡ T.script_data_double_escaped) × (are_characters ts ≡ true)
IsStage w stage.DoubleEscapedDash s ts = (s ≡ T.script_data_double_escaped_dash) × (are_characters ts ≡ true)
IsStage w stage.DoubleEscapedDashDash s ts = (s ≡ T.script_data_double_escaped_dash_dash) × (are_characters ts ≡ true)
IsStage w stage.DoubleEscapedLessThan s ts = (w ≡ []) × (s ≡ T.script_data_double_escaped_less_than_sign) × (are_characters ts ≡ true)
IsStage w stage.DoubleEscapeEnd s ts = (v : List ℕ) × (w ≡ 47 ∷ v) × (s ≡ T.script_data_double_escape_end (map to_ascii_lowercase v)) × (are_characters ts ≡ true)
IsStage w (stage.BeforeKey tag) s ts = (o : OpenTag) × IsTag tag o × (s ≡ T.before_attribute_name o) × (ts ≡ [])
IsStage w (stage.Key tag) s ts = (o : OpenTag) × (key : List ℕ) × IsTag tag o × (s ≡ T.attribute_name o key) × (ts ≡ [])
IsStage w (stage.AfterKey tag) s ts = (o : OpenTag) × (key : List ℕ) × IsTag tag o × (s ≡ T.after_attribute_name o key) × (ts ≡ [])
IsStage w (stage.BeforeValue tag) s ts = (o : OpenTag) × (key : List ℕ) × IsTag tag o × (s ≡ T.before_attribute_value o key) × (ts ≡ [])
IsStage w (stage.Value q tag) s ts = IsPlace (place.Value q tag) s × (ts ≡ [])
IsStage w (stage.AfterValue tag) s ts = (o : OpenTag) × IsTag tag o × (s ≡ T.after_attribute_value o) × (ts ≡ [])
IsStage w (stage.SelfClosing tag) s ts = (o : OpenTag) × IsTag tag o × (s ≡ T.self_closing_start_tag o) × (ts ≡ [])
IsStage w stage.BogusComment s ts = (bytes : List ℕ) × (s ≡ T.bogus_comment bytes) × (ts ≡ [])
IsStage w stage.Declaration s ts = (v : List ℕ) × (w ≡ 33 ∷ v) × (s ≡ T.markup_declaration_open v) × (ts ≡ [])
IsStage w stage.CommentStart s ts = (s ≡ T.comment_start) × (ts ≡ [])
IsStage w stage.CommentStartDash s ts = (s ≡ T.comment_start_dash) × (ts ≡ [])
IsStage w stage.Comment s ts = (bytes : List ℕ) × (s ≡ T.comment bytes) × (ts ≡ [])
IsStage w stage.CommentLessThan s ts = (bytes : List ℕ) × (s ≡ T.comment_less_than_sign bytes) × (ts ≡ [])
IsStage w stage.CommentBang s ts = (bytes : List ℕ) × (s ≡ T.comment_less_than_sign_bang bytes) × (ts ≡ [])
IsStage w stage.CommentBangDash s ts = (bytes : List ℕ) × (s ≡ T.comment_less_than_sign_bang_dash bytes) × (ts ≡ [])
IsStage w stage.CommentBangDashDash s ts = (bytes : List ℕ) × (s ≡ T.comment_less_than_sign_bang_dash_dash bytes) × (ts ≡ [])
IsStage w stage.CommentEndDash s ts = (bytes : List ℕ) × (s ≡ T.comment_end_dash bytes) × (ts ≡ [])
IsStage w stage.CommentEnd s ts = (bytes : List ℕ) × (s ≡ T.comment_end bytes) × (ts ≡ [])
IsStage w stage.CommentEndBang s ts = (bytes : List ℕ) × (s ≡ T.comment_end_bang bytes) × (ts ≡ [])
IsStage w stage.Doctype s ts = (s ≡ T.doctype) × (ts ≡ [])

-- the piece may not end yet
abbrev pub IsBegun : Stage → Type 0
IsBegun (stage.Whole k m) = ⊥
IsBegun _ = ⊤

-- the bytes of the word at the next stage
abbrev pub next_word : Stage → List ℕ → ℕ → List ℕ
next_word c w b = if has_word c then w ++ b ∷ [] else []

-- modes

pub rests : (m : Mode) → is_at_rest (state_of m) ≡ true
rests mode.Data = refl
rests mode.Title = refl
rests mode.Textarea = refl
rests mode.ContextText = refl
rests mode.Style = refl
rests mode.Xmp = refl
rests mode.Iframe = refl
rests mode.Noembed = refl
rests mode.Noframes = refl
rests mode.Noscript = refl
rests mode.Script = refl
rests mode.ScriptEscaped = refl
rests mode.ScriptEscapedDash = refl
rests mode.ScriptEscapedDashDash = refl
rests mode.Plaintext = refl

pub flushed_text : (m : Mode) (bytes : List ℕ) (v : Bool) → T.flushed (state_of m) bytes v ≡ record { next = state_of m; emits = map Character bytes; again = v }
flushed_text mode.Data bytes v = refl
flushed_text mode.Title bytes v = refl
flushed_text mode.Textarea bytes v = refl
flushed_text mode.ContextText bytes v = refl
flushed_text mode.Style bytes v = refl
flushed_text mode.Xmp bytes v = refl
flushed_text mode.Iframe bytes v = refl
flushed_text mode.Noembed bytes v = refl
flushed_text mode.Noframes bytes v = refl
flushed_text mode.Noscript bytes v = refl
flushed_text mode.Script bytes v = refl
flushed_text mode.ScriptEscaped bytes v = refl
flushed_text mode.ScriptEscapedDash bytes v = refl
flushed_text mode.ScriptEscapedDashDash bytes v = refl
flushed_text mode.Plaintext bytes v = refl

pub own_is : (m : Mode) → T.own_name (raw_of m) ≡ own_name m
own_is mode.Data = refl
own_is mode.Title = refl
own_is mode.Textarea = refl
own_is mode.ContextText = refl
own_is mode.Style = refl
own_is mode.Xmp = refl
own_is mode.Iframe = refl
own_is mode.Noembed = refl
own_is mode.Noframes = refl
own_is mode.Noscript = refl
own_is mode.Script = refl
own_is mode.ScriptEscaped = refl
own_is mode.ScriptEscapedDash = refl
own_is mode.ScriptEscapedDashDash = refl
own_is mode.Plaintext = refl

-- characters

all_chars : (b : ℕ) (bytes : List ℕ) → are_characters (map Character (b ∷ bytes)) ≡ true
all_chars b [] = refl
all_chars b (c ∷ bytes) = all_chars c bytes

pub chars : (bytes : List ℕ) → IsSome bytes → are_characters (map Character bytes) ≡ true
chars [] h = absurd h
chars (b ∷ bytes) h = all_chars b bytes

first_chars : (b : ℕ) (bytes : List ℕ) → are_characters (Character b ∷ map Character bytes) ≡ true
first_chars b bytes = all_chars b bytes

pub more_chars : (ts : List HtmlToken) (bytes : List ℕ) → are_characters ts ≡ true → are_characters (ts ++ map Character bytes) ≡ true
more_chars [] bytes h = absurd (true≢false (sym h))
more_chars (Character b ∷ []) bytes h = first_chars b bytes
more_chars (Character b ∷ t ∷ ts) bytes h = more_chars (t ∷ ts) bytes h
more_chars (StartTag n a c ∷ ts) bytes h = absurd (true≢false (sym h))
more_chars (EndTag n ∷ ts) bytes h = absurd (true≢false (sym h))
more_chars (CommentToken n ∷ ts) bytes h = absurd (true≢false (sym h))
more_chars (DoctypeToken ∷ ts) bytes h = absurd (true≢false (sym h))

pub char_some : (b : ℕ) → IsSome (char_of b)
char_some b = cond_both (b == 0) _ _ IsSome (λ _. tt) (λ _. tt)

-- names

is_letter : ℕ → Bool
is_letter x = not (x == 0) && not (0xEF == x)

and_left : (a c : Bool) → a ≡ false → (a && c) ≡ false
and_left true c h = absurd (true≢false h)
and_left false c h = refl

and_right : (a c : Bool) → c ≡ false → (a && c) ≡ false
and_right true c h = h
and_right false c h = refl

or_parts : (a c : Bool) → (a || c) ≡ false → (a ≡ false) × (c ≡ false)
or_parts true c h = absurd (true≢false h)
or_parts false c h = (refl, h)

not_parts : (x : ℕ) → is_letter x ≡ true → ((0 == x) ≡ false) × ((0xEF == x) ≡ false)
unfolding is_letter
not_parts x h = (grind arith, grind arith)

-- a name with a NUL is none of these
name_is : (w word : List ℕ) → list_all is_letter word ≡ true → bytes_eq (letters w) word ≡ bytes_eq (map to_ascii_lowercase w) word
name_is [] word h = refl
name_is (c ∷ w) [] h = cond_both (to_ascii_lowercase c == 0) _ _ (λ (x : List ℕ). bytes_eq (x ++ letters w) [] ≡ false) (λ _. refl) (λ _. refl)
name_is (c ∷ w) (x ∷ word) h =
    let p = and_parts (is_letter x) (list_all is_letter word) h in
    let q = not_parts x p.0 in
    cond_both (to_ascii_lowercase c == 0) _ _ (λ (y : List ℕ). bytes_eq (y ++ letters w) (x ∷ word) ≡ ((to_ascii_lowercase c == x) && bytes_eq (map to_ascii_lowercase w) word))
    (λ z. and_left (0xEF == x) _ q.1 ∙ sym (and_left (to_ascii_lowercase c == x) _ (ap (λ d. d == x) (eqb-true (to_ascii_lowercase c) 0 z) ∙ q.0)))
    (λ _. ap (λ (v : Bool). (to_ascii_lowercase c == x) && v) (name_is w word p.1))

chain : (t a s x i e n c p : Bool) (name : List ℕ) → (t ≡ true → name ≡ codes "title") → (a ≡ true → name ≡ codes "textarea") →
    (s ≡ true → name ≡ codes "style") → (x ≡ true → name ≡ codes "xmp") → (i ≡ true → name ≡ codes "iframe") → (e ≡ true → name ≡ codes "noembed") → (n ≡ true → name ≡ codes "noframes") →
    (if t || (a || false) then T.raw (T.rcdata name)
    else if s || (x || (i || (e || (n || false)))) then T.raw (T.rawtext name)
    else if c then T.raw T.script_data
    else if p then T.plaintext
    else T.data_state)
    ≡ state_of (if t then mode.Title else if a then mode.Textarea else if s then mode.Style else if x then mode.Xmp else if i then mode.Iframe
    else if e then mode.Noembed else if n then mode.Noframes else if c then mode.Script else if p then mode.Plaintext else mode.Data)
chain true a s x i e n c p name ht ha hs hx hi he hn = ap (λ v. T.raw (T.rcdata v)) (ht refl)
chain false true s x i e n c p name ht ha hs hx hi he hn = ap (λ v. T.raw (T.rcdata v)) (ha refl)
chain false false true x i e n c p name ht ha hs hx hi he hn = ap (λ v. T.raw (T.rawtext v)) (hs refl)
chain false false false true i e n c p name ht ha hs hx hi he hn = ap (λ v. T.raw (T.rawtext v)) (hx refl)
chain false false false false true e n c p name ht ha hs hx hi he hn = ap (λ v. T.raw (T.rawtext v)) (hi refl)
chain false false false false false true n c p name ht ha hs hx hi he hn = ap (λ v. T.raw (T.rawtext v)) (he refl)
chain false false false false false false true c p name ht ha hs hx hi he hn = ap (λ v. T.raw (T.rawtext v)) (hn refl)
chain false false false false false false false true p name ht ha hs hx hi he hn = refl
chain false false false false false false false false true name ht ha hs hx hi he hn = refl
chain false false false false false false false false false name ht ha hs hx hi he hn = refl

equal : (name word : List ℕ) → bytes_eq name word ≡ true → name ≡ word
equal name word h = (bytes_eq-Decides name word).0 h

by_letters : (w : List ℕ) → T.after_start (letters w) ≡ state_of (
    if bytes_eq (letters w) (codes "title") then mode.Title
    else if bytes_eq (letters w) (codes "textarea") then mode.Textarea
    else if bytes_eq (letters w) (codes "style") then mode.Style
    else if bytes_eq (letters w) (codes "xmp") then mode.Xmp
    else if bytes_eq (letters w) (codes "iframe") then mode.Iframe
    else if bytes_eq (letters w) (codes "noembed") then mode.Noembed
    else if bytes_eq (letters w) (codes "noframes") then mode.Noframes
    else if bytes_eq (letters w) (codes "script") then mode.Script
    else if bytes_eq (letters w) (codes "plaintext") then mode.Plaintext
    else mode.Data)
by_letters w =
    chain (bytes_eq (letters w) (codes "title")) (bytes_eq (letters w) (codes "textarea")) (bytes_eq (letters w) (codes "style")) (bytes_eq (letters w) (codes "xmp"))
    (bytes_eq (letters w) (codes "iframe")) (bytes_eq (letters w) (codes "noembed")) (bytes_eq (letters w) (codes "noframes")) (bytes_eq (letters w) (codes "script"))
    (bytes_eq (letters w) (codes "plaintext")) (letters w) (equal (letters w) (codes "title")) (equal (letters w) (codes "textarea")) (equal (letters w) (codes "style"))
    (equal (letters w) (codes "xmp")) (equal (letters w) (codes "iframe")) (equal (letters w) (codes "noembed")) (equal (letters w) (codes "noframes"))

same_mode : (v u : Bool) (x y z : Mode) → v ≡ u → y ≡ z → (if v then x else y) ≡ (if u then x else z)
same_mode v u x y z e h = ap₂ (λ (a : Bool) (m : Mode). if a then x else m) e h

pub after_start_is : (w : List ℕ) → T.after_start (letters w) ≡ state_of (mode_after w)
unfolding is_letter
after_start_is w =
    by_letters w ∙ ap state_of
    (same_mode _ _ mode.Title _ _ (name_is w (codes "title") refl)
    (same_mode _ _ mode.Textarea _ _ (name_is w (codes "textarea") refl)
    (same_mode _ _ mode.Style _ _ (name_is w (codes "style") refl)
    (same_mode _ _ mode.Xmp _ _ (name_is w (codes "xmp") refl)
    (same_mode _ _ mode.Iframe _ _ (name_is w (codes "iframe") refl)
    (same_mode _ _ mode.Noembed _ _ (name_is w (codes "noembed") refl)
    (same_mode _ _ mode.Noframes _ _ (name_is w (codes "noframes") refl)
    (same_mode _ _ mode.Script _ _ (name_is w (codes "script") refl)
    (same_mode _ _ mode.Plaintext _ _ (name_is w (codes "plaintext") refl) refl)))))))))

-- in an element whose text is raw
pub inside_is : (w : List ℕ) → (if bytes_eq (codes "noscript") (letters w) then T.raw (T.rawtext (letters w)) else T.after_start (letters w)) ≡ state_of (mode_inside w)
unfolding is_letter
inside_is w =
    let name : List ℕ = codes "noscript" in
    let same : bytes_eq (letters w) name ≡ str_eq_ignore_ascii_case w name = name_is w name refl in
    elim (cases_Bool (bytes_eq (letters w) name)) [
      | inl y ↦ (
          let e = equal (letters w) name y in
          ap (λ (v : List ℕ). if bytes_eq name v then T.raw (T.rawtext v) else T.after_start v) e
          ∙ sym (ap (λ (v : Bool). state_of (if v then mode.Noscript else mode_after w)) (sym same ∙ y)))
      | inr n ↦ (
          let off : bytes_eq name (letters w) ≡ false = elim (cases_Bool (bytes_eq name (letters w))) [
            | inl y ↦ absurd (true≢false (sym (ap (λ v. bytes_eq v name) (sym (equal name (letters w) y))) ∙ n))
            | inr o ↦ o
          ] in
          ap (λ (v : Bool). if v then T.raw (T.rawtext (letters w)) else T.after_start (letters w)) off ∙ after_start_is w
          ∙ sym (ap (λ (v : Bool). state_of (if v then mode.Noscript else mode_after w)) (sym same ∙ n)))
    ]

-- by a name that is known

named_mode : (name word : List ℕ) (m : Mode) (r : List ℕ → Raw) (o : Option Mode) → state_of m ≡ T.raw (r word) → IfSome o (λ k. state_of k ≡ T.raw (r name)) →
    IfSome (if bytes_eq name word then Some m else o) (λ k. state_of k ≡ T.raw (r name))
named_mode name word m r o e h =
    cond_both (bytes_eq name word) (Some m) o (λ (x : Option Mode). IfSome x (λ k. state_of k ≡ T.raw (r name))) (λ y. e ∙ ap (λ v. T.raw (r v)) (sym (equal name word y))) (λ _. h)

pub rcdata_state : (name : List ℕ) → IfSome (rcdata_mode name) (λ k. state_of k ≡ T.raw (T.rcdata name))
rcdata_state name =
    named_mode name (codes "title") mode.Title T.rcdata _ refl
    (named_mode name (codes "textarea") mode.Textarea T.rcdata _ refl
    (named_mode name [] mode.ContextText T.rcdata _ refl tt))

pub rawtext_state : (name : List ℕ) → IfSome (rawtext_mode name) (λ k. state_of k ≡ T.raw (T.rawtext name))
rawtext_state name =
    named_mode name (codes "style") mode.Style T.rawtext _ refl
    (named_mode name (codes "xmp") mode.Xmp T.rawtext _ refl
    (named_mode name (codes "iframe") mode.Iframe T.rawtext _ refl
    (named_mode name (codes "noembed") mode.Noembed T.rawtext _ refl
    (named_mode name (codes "noframes") mode.Noframes T.rawtext _ refl
    (named_mode name (codes "noscript") mode.Noscript T.rawtext _ refl tt)))))

-- steps

module _ (b : ℕ) (w : List ℕ) where
  -- the machine stays in the piece
  abbrev pub Comes : List HtmlToken → State → Turn → Type 0
  Comes ts s (Goes c) = IsStage (next_word c w b) c s ts
  Comes ts s (Ends k m) = ⊥

  -- or is at rest before the byte
  abbrev pub Stops : List HtmlToken → State → Turn → Type 0
  Stops ts s (Goes c) = ⊥
  Stops ts s (Ends k m) = (s ≡ state_of m) × IsKind k ts

  -- a step, with so many reconsumes at most, does what the turn says
  abbrev pub Met : ℕ → List HtmlToken → Step → Turn → Type 0
  Met zero ts x o = (x.again ≡ false) × Comes (ts ++ x.emits) x.next o
  Met (suc n) ts x o = elim x.again as (λ _. Type 0) [
    | false ↦ Comes (ts ++ x.emits) x.next o
    | true ↦ elim (is_at_rest x.next) as (λ _. Type 0) [ true ↦ Stops (ts ++ x.emits) x.next o | false ↦ Met n (ts ++ x.emits) (step x.next b) o ]
  ]

  pick : (n : ℕ) (ts : List HtmlToken) (v : Bool) (x y : Step) (o p : Turn) → (v ≡ true → Met n ts x o) → (v ≡ false → Met n ts y p) →
      Met n ts (if v then x else y) (if v then o else p)
  pick n ts true x y o p f g = f refl
  pick n ts false x y o p f g = g refl

  stay : (n : ℕ) (ts es : List HtmlToken) (s : State) (c : Stage) → IsStage (next_word c w b) c s (ts ++ es) → Met n ts (record { next = s; emits = es; again = false }) (Goes c)
  stay zero ts es s c h = (refl, h)
  stay (suc n) ts es s c h = h

  to : (n : ℕ) (s : State) (c : Stage) → IsStage (next_word c w b) c s [] → Met n [] (T.to s) (Goes c)
  to n s c h = stay n [] [] s c h

  -- tags

  with_pair : (tag : Tag) (o : OpenTag) (key value : List ℕ) → IsTag tag o → IsTag tag (T.with_attribute o key value)
  with_pair tag o key value h =
      cond_both (list_any (λ (a : HtmlAttribute). bytes_eq a.0 key) o.attributes) _ _ (IsTag tag) (λ _. h) (λ _. record { end = h.end; goes_on = h.goes_on })

  ended_as : (n : ℕ) (v u : Bool) (m : Mode) (o : OpenTag) (closes : Bool) → v ≡ u → (if v then T.data_state else T.after_start o.name) ≡ state_of m →
      Met n [] (if v then T.emitting_token (EndTag o.name) T.data_state else T.emitting_token (StartTag o.name o.attributes closes) (T.after_start o.name)) (Goes (stage.Whole (M.tag_kind u) m))
  ended_as n true true m o closes e h = stay n [] (EndTag o.name ∷ []) T.data_state (stage.Whole kind.EndTag m) (h, tt)
  ended_as n false false m o closes e h = stay n [] (StartTag o.name o.attributes closes ∷ []) (T.after_start o.name) (stage.Whole kind.StartTag m) (h, tt)
  ended_as n true false m o closes e h = absurd (true≢false e)
  ended_as n false true m o closes e h = absurd (true≢false (sym e))

  ended : (n : ℕ) (tag : Tag) (o : OpenTag) (closes : Bool) → IsTag tag o → Met n [] (T.emitted o closes) (M.tag_end tag)
  ended n tag o closes h = ended_as n o.is_end tag.is_end tag.mode o closes h.end h.goes_on

  none_ends : is_white_space b ≡ false → (b == 47) ≡ false → (b == 62) ≡ false → ends_name b ≡ false
  none_ends x s g = rw (x, s, g) refl

  new_key : (n : ℕ) (tag : Tag) (o : OpenTag) → IsTag tag o → ends_name b ≡ false → (b == 61) ≡ false → Met n [] (step (T.attribute_name o []) b) (Goes (stage.Key tag))
  new_key n tag o h e q = rw (e, q) (to n (T.attribute_name o (char_of (to_ascii_lowercase b))) (stage.Key tag) (o, char_of (to_ascii_lowercase b), h, refl, refl))

  before_key : (n : ℕ) (tag : Tag) (o : OpenTag) → IsTag tag o → Met (suc n) [] (step (T.before_attribute_name o) b) (M.before_key tag b)
  before_key n tag o h =
      pick (suc n) [] (is_white_space b) _ _ _ _ (λ _. to (suc n) _ (stage.BeforeKey tag) (o, h, refl, refl))
      (λ x. pick (suc n) [] (b == 47) _ _ _ _ (λ _. to (suc n) _ (stage.SelfClosing tag) (o, h, refl, refl))
      (λ s. pick (suc n) [] (b == 62) _ _ _ _ (λ _. ended (suc n) tag o false h)
      (λ g. elim (cases_Bool (b == 61)) [
        | inl q ↦ rw q (to (suc n) (T.attribute_name o (b ∷ [])) (stage.Key tag) (o, b ∷ [], h, refl, refl))
        | inr q ↦ rw q (new_key n tag o h (none_ends x s g) q)
      ])))

  after_key : (n : ℕ) (tag : Tag) (o : OpenTag) (key : List ℕ) → IsTag tag o → Met (suc n) [] (step (T.after_attribute_name o key) b) (M.after_key tag b)
  after_key n tag o key h =
      let t = with_pair tag o key [] h in
      pick (suc n) [] (is_white_space b) _ _ _ _ (λ _. to (suc n) _ (stage.AfterKey tag) (o, key, h, refl, refl))
      (λ x. pick (suc n) [] (b == 47) _ _ _ _ (λ _. to (suc n) _ (stage.SelfClosing tag) (T.with_attribute o key [], t, refl, refl))
      (λ s. pick (suc n) [] (b == 61) _ _ _ _ (λ _. to (suc n) _ (stage.BeforeValue tag) (o, key, h, refl, refl))
      (λ q. pick (suc n) [] (b == 62) _ _ _ _ (λ _. ended (suc n) tag (T.with_attribute o key []) false t)
      (λ g. new_key n tag (T.with_attribute o key []) t (none_ends x s g) q))))

  -- after a key that this byte ends
  ended_key : (n : ℕ) (tag : Tag) (o : OpenTag) (key : List ℕ) → IsTag tag o → ends_name b ≡ true → Met n [] (step (T.after_attribute_name o key) b) (M.after_key tag b)
  ended_key n tag o key h e =
      let t = with_pair tag o key [] h in
      pick n [] (is_white_space b) _ _ _ _ (λ _. to n _ (stage.AfterKey tag) (o, key, h, refl, refl))
      (λ x. pick n [] (b == 47) _ _ _ _ (λ _. to n _ (stage.SelfClosing tag) (T.with_attribute o key [], t, refl, refl))
      (λ s. pick n [] (b == 61) _ _ _ _ (λ _. to n _ (stage.BeforeValue tag) (o, key, h, refl, refl))
      (λ q. pick n [] (b == 62) _ _ _ _ (λ _. ended n tag (T.with_attribute o key []) false t)
      (λ g. absurd (true≢false (sym e ∙ none_ends x s g))))))

  in_key : (n : ℕ) (tag : Tag) (o : OpenTag) (key : List ℕ) → IsTag tag o → Met (suc n) [] (step (T.attribute_name o key) b) (M.key tag b)
  in_key n tag o key h =
      pick (suc n) [] (ends_name b) _ _ _ _ (λ e. ended_key n tag o key h e)
      (λ _. pick (suc n) [] (b == 61) _ _ _ _ (λ _. to (suc n) _ (stage.BeforeValue tag) (o, key, h, refl, refl))
      (λ _. to (suc n) _ (stage.Key tag) (o, key ++ char_of (to_ascii_lowercase b), h, refl, refl)))

  value : (n : ℕ) (q : Quote) (tag : Tag) (o : OpenTag) (key v : List ℕ) (s : State) → IsTag tag o → IsValue q o key v s → Met n [] (step s b) (M.value q tag b)
  value n quote.Double tag o key v s h e =
      subst (λ (r : State). Met n [] (step r b) (M.value quote.Double tag b)) (sym e)
      (pick n [] (b == 34) _ _ _ _ (λ _. to n _ (stage.AfterValue tag) (T.with_attribute o key v, with_pair tag o key v h, refl, refl))
      (λ _. pick n [] (b == 38) _ _ _ _ (λ _. to n _ (stage.Reference (place.Value quote.Double tag)) (T.double_quoted o key v, (o, key, v, h, refl), refl, refl))
      (λ _. to n _ (stage.Value quote.Double tag) ((o, key, v ++ char_of b, h, refl), refl))))
  value n quote.Single tag o key v s h e =
      subst (λ (r : State). Met n [] (step r b) (M.value quote.Single tag b)) (sym e)
      (pick n [] (b == 39) _ _ _ _ (λ _. to n _ (stage.AfterValue tag) (T.with_attribute o key v, with_pair tag o key v h, refl, refl))
      (λ _. pick n [] (b == 38) _ _ _ _ (λ _. to n _ (stage.Reference (place.Value quote.Single tag)) (T.single_quoted o key v, (o, key, v, h, refl), refl, refl))
      (λ _. to n _ (stage.Value quote.Single tag) ((o, key, v ++ char_of b, h, refl), refl))))
  value n quote.Absent tag o key v s h e =
      subst (λ (r : State). Met n [] (step r b) (M.value quote.Absent tag b)) (sym e)
      (pick n [] (is_white_space b) _ _ _ _ (λ _. to n _ (stage.BeforeKey tag) (T.with_attribute o key v, with_pair tag o key v h, refl, refl))
      (λ _. pick n [] (b == 38) _ _ _ _ (λ _. to n _ (stage.Reference (place.Value quote.Absent tag)) (T.unquoted o key v, (o, key, v, h, refl), refl, refl))
      (λ _. pick n [] (b == 62) _ _ _ _ (λ _. ended n tag (T.with_attribute o key v) false (with_pair tag o key v h))
      (λ _. to n _ (stage.Value quote.Absent tag) ((o, key, v ++ char_of b, h, refl), refl)))))

  before_value : (n : ℕ) (tag : Tag) (o : OpenTag) (key : List ℕ) → IsTag tag o → Met (suc n) [] (step (T.before_attribute_value o key) b) (M.before_value tag b)
  before_value n tag o key h =
      pick (suc n) [] (is_white_space b) _ _ _ _ (λ _. to (suc n) _ (stage.BeforeValue tag) (o, key, h, refl, refl))
      (λ _. pick (suc n) [] (b == 34) _ _ _ _ (λ _. to (suc n) _ (stage.Value quote.Double tag) ((o, key, [], h, refl), refl))
      (λ _. pick (suc n) [] (b == 39) _ _ _ _ (λ _. to (suc n) _ (stage.Value quote.Single tag) ((o, key, [], h, refl), refl))
      (λ _. pick (suc n) [] (b == 62) _ _ _ _ (λ _. ended (suc n) tag (T.with_attribute o key []) false (with_pair tag o key [] h))
      (λ _. value n quote.Absent tag o key [] (T.unquoted o key []) h refl))))

  after_value : (n : ℕ) (tag : Tag) (o : OpenTag) → IsTag tag o → Met (suc (suc n)) [] (step (T.after_attribute_value o) b) (M.after_value tag b)
  after_value n tag o h =
      pick (suc (suc n)) [] (is_white_space b) _ _ _ _ (λ _. to (suc (suc n)) _ (stage.BeforeKey tag) (o, h, refl, refl))
      (λ _. pick (suc (suc n)) [] (b == 47) _ _ _ _ (λ _. to (suc (suc n)) _ (stage.SelfClosing tag) (o, h, refl, refl))
      (λ _. pick (suc (suc n)) [] (b == 62) _ _ _ _ (λ _. ended (suc (suc n)) tag o false h)
      (λ _. before_key n tag o h)))

  self_closing : (n : ℕ) (tag : Tag) (o : OpenTag) → IsTag tag o → Met (suc (suc n)) [] (step (T.self_closing_start_tag o) b) (M.self_closing tag b)
  self_closing n tag o h =
      pick (suc (suc n)) [] (b == 62) _ _ _ _ (λ _. ended (suc (suc n)) tag o true h) (λ _. before_key n tag o h)

  -- references

  flush_again : (n : ℕ) (p : Place) (r : State) (bytes : List ℕ) → IsPlace p r → IsSome bytes → Met (suc n) [] (T.flushed r bytes true) (M.leave p b)
  flush_again n (place.Text m) r bytes h k =
      subst (λ (x : Step). Met (suc n) [] x (Ends kind.Text m)) (sym (ap (λ s. T.flushed s bytes true) h ∙ flushed_text m bytes true))
      (rw (rests m, Met) (refl, chars bytes k))
  flush_again n (place.Value quote.Double tag) r bytes (o, key, v, h, e) k =
      subst (λ (s : State). Met (suc n) [] (T.flushed s bytes true) (M.value quote.Double tag b)) (sym e)
      (value n quote.Double tag o key (v ++ bytes) (T.double_quoted o key (v ++ bytes)) h refl)
  flush_again n (place.Value quote.Single tag) r bytes (o, key, v, h, e) k =
      subst (λ (s : State). Met (suc n) [] (T.flushed s bytes true) (M.value quote.Single tag b)) (sym e)
      (value n quote.Single tag o key (v ++ bytes) (T.single_quoted o key (v ++ bytes)) h refl)
  flush_again n (place.Value quote.Absent tag) r bytes (o, key, v, h, e) k =
      subst (λ (s : State). Met (suc n) [] (T.flushed s bytes true) (M.value quote.Absent tag b)) (sym e)
      (value n quote.Absent tag o key (v ++ bytes) (T.unquoted o key (v ++ bytes)) h refl)

  flush : (n : ℕ) (p : Place) (r : State) (bytes : List ℕ) → IsPlace p r → IsSome bytes → Met n [] (T.flushed r bytes false) (Goes (M.resume p))
  flush n (place.Text m) r bytes h k =
      subst (λ (x : Step). Met n [] x (Goes (stage.Whole kind.Text m))) (sym (ap (λ s. T.flushed s bytes false) h ∙ flushed_text m bytes false))
      (stay n [] (map Character bytes) (state_of m) (stage.Whole kind.Text m) (refl, chars bytes k))
  flush n (place.Value quote.Double tag) r bytes (o, key, v, h, e) k =
      subst (λ (s : State). Met n [] (T.flushed s bytes false) (Goes (stage.Value quote.Double tag))) (sym e)
      (to n _ (stage.Value quote.Double tag) ((o, key, v ++ bytes, h, refl), refl))
  flush n (place.Value quote.Single tag) r bytes (o, key, v, h, e) k =
      subst (λ (s : State). Met n [] (T.flushed s bytes false) (Goes (stage.Value quote.Single tag))) (sym e)
      (to n _ (stage.Value quote.Single tag) ((o, key, v ++ bytes, h, refl), refl))
  flush n (place.Value quote.Absent tag) r bytes (o, key, v, h, e) k =
      subst (λ (s : State). Met n [] (T.flushed s bytes false) (Goes (stage.Value quote.Absent tag))) (sym e)
      (to n _ (stage.Value quote.Absent tag) ((o, key, v ++ bytes, h, refl), refl))

  number_end : (n : ℕ) (p : Place) (r : State) (bytes : List ℕ) → IsPlace p r → IsSome bytes → Met (suc n) [] (T.flushed r bytes (not (b == 59))) (M.number_end p b)
  number_end n p r bytes h k = elim (cases_Bool (b == 59)) [
    | inl y ↦ rw y (flush (suc n) p r bytes h k)
    | inr m ↦ rw m (flush_again n p r bytes h k)
  ]

  some_more : (buffer : List ℕ) → IsSome (buffer ++ b ∷ [])
  some_more [] = tt
  some_more (c ∷ buffer) = tt

  named_letter : (n : ℕ) (p : Place) (r : State) (buffer : List ℕ) → IsPlace p r → is_ascii_alphanumeric b ≡ true →
      Met n [] (step (T.named_character_reference r buffer) b) (Goes (stage.NamedReference p))
  named_letter n p r buffer h l = rw l (to n (T.named_character_reference r (buffer ++ b ∷ [])) (stage.NamedReference p) (r, buffer ++ b ∷ [], some_more buffer, h, refl, refl))

  named : (n : ℕ) (p : Place) (r : State) (buffer : List ℕ) → IsPlace p r → Met (suc n) [] (step (T.named_character_reference r buffer) b) (M.named_reference p b)
  named n p r buffer h =
      pick (suc n) [] (is_ascii_alphanumeric b) _ _ _ _ (λ _. to (suc n) _ (stage.NamedReference p) (r, buffer ++ b ∷ [], some_more buffer, h, refl, refl))
      (λ _. pick (suc n) [] (b == 59) _ _ _ _
      (λ _. flush (suc n) p r (named_value (T.is_value r) (buffer ++ b ∷ []) []) h (named_value_some (T.is_value r) (buffer ++ b ∷ []) []))
      (λ _. flush_again n p r (named_value (T.is_value r) buffer (b ∷ [])) h (named_value_some (T.is_value r) buffer (b ∷ []))))

  reference : (n : ℕ) (p : Place) (r : State) → IsPlace p r → Met (suc n) [] (step (T.character_reference r) b) (M.reference p b)
  reference n p r h =
      pick (suc n) [] (is_ascii_alphanumeric b) _ _ _ _ (λ l. named_letter n p r [] h l)
      (λ _. pick (suc n) [] (b == 35) _ _ _ _ (λ _. to (suc n) _ (stage.NumericReference p) (r, h, refl, refl)) (λ _. flush_again n p r (codes "&") h tt))

  hexadecimal : (n : ℕ) (p : Place) (r : State) (code : ℕ) → IsPlace p r → Met (suc n) [] (step (T.hexadecimal r code) b) (M.hexadecimal p b)
  hexadecimal n p r code h =
      pick (suc n) [] (is_ascii_hexdigit b) _ _ _ _ (λ _. to (suc n) _ (stage.Hexadecimal p) (r, code * 16 + T.digit_value b, h, refl, refl))
      (λ _. number_end n p r (number_value code) h (number_value_some code))

  decimal : (n : ℕ) (p : Place) (r : State) (code : ℕ) → IsPlace p r → Met (suc n) [] (step (T.decimal r code) b) (M.decimal p b)
  decimal n p r code h =
      pick (suc n) [] (is_ascii_digit b) _ _ _ _ (λ _. to (suc n) _ (stage.Decimal p) (r, code * 10 + T.digit_value b, h, refl, refl))
      (λ _. number_end n p r (number_value code) h (number_value_some code))

  hexadecimal_digit : (n : ℕ) (p : Place) (r : State) → IsPlace p r → is_ascii_hexdigit b ≡ true → Met n [] (step (T.hexadecimal r 0) b) (Goes (stage.Hexadecimal p))
  hexadecimal_digit n p r h l =
      cond_both (is_ascii_hexdigit b) _ _ (λ x. Met n [] x (Goes (stage.Hexadecimal p)))
      (λ _. to n _ (stage.Hexadecimal p) (r, 0 * 16 + T.digit_value b, h, refl, refl)) (λ m. absurd (true≢false (sym l ∙ m)))

  decimal_digit : (n : ℕ) (p : Place) (r : State) → IsPlace p r → is_ascii_digit b ≡ true → Met n [] (step (T.decimal r 0) b) (Goes (stage.Decimal p))
  decimal_digit n p r h l =
      cond_both (is_ascii_digit b) _ _ (λ x. Met n [] x (Goes (stage.Decimal p)))
      (λ _. to n _ (stage.Decimal p) (r, 0 * 10 + T.digit_value b, h, refl, refl)) (λ m. absurd (true≢false (sym l ∙ m)))

  hexadecimal_start : (n : ℕ) (p : Place) (r : State) (x : ℕ) → IsPlace p r → Met (suc n) [] (step (T.hexadecimal_start r x) b) (M.hexadecimal_start p b)
  hexadecimal_start n p r x h =
      pick (suc n) [] (is_ascii_hexdigit b) _ _ _ _ (λ l. hexadecimal_digit n p r h l) (λ _. flush_again n p r (codes "&#" ++ x ∷ []) h tt)

  decimal_start : (n : ℕ) (p : Place) (r : State) → IsPlace p r → Met (suc n) [] (step (T.decimal_start r) b) (M.decimal_start p b)
  decimal_start n p r h =
      pick (suc n) [] (is_ascii_digit b) _ _ _ _ (λ l. decimal_digit n p r h l) (λ _. flush_again n p r (codes "&#") h tt)

  numeric : (n : ℕ) (p : Place) (r : State) → IsPlace p r → Met (suc (suc n)) [] (step (T.numeric_character_reference r) b) (M.numeric_reference p b)
  numeric n p r h =
      pick (suc (suc n)) [] (to_ascii_lowercase b == 120) _ _ _ _ (λ _. to (suc (suc n)) _ (stage.HexadecimalStart p) (r, b, h, refl, refl))
      (λ _. decimal_start n p r h)

  -- comments

  comment_whole : (n : ℕ) (bytes : List ℕ) → Met n [] (T.emitting_token (CommentToken bytes) T.data_state) M.comment_token
  comment_whole n bytes = stay n [] (CommentToken bytes ∷ []) T.data_state (stage.Whole kind.Comment mode.Data) (refl, tt)

  in_comment : (n : ℕ) (bytes : List ℕ) → Met n [] (step (T.comment bytes) b) (M.comment b)
  in_comment n bytes =
      pick n [] (b == 60) _ _ _ _ (λ _. to n _ stage.CommentLessThan (bytes ++ b ∷ [], refl, refl))
      (λ _. pick n [] (b == 45) _ _ _ _ (λ _. to n _ stage.CommentEndDash (bytes, refl, refl)) (λ _. to n _ stage.Comment (bytes ++ char_of b, refl, refl)))

  less_than : (n : ℕ) (bytes : List ℕ) → Met (suc n) [] (step (T.comment_less_than_sign bytes) b) (M.comment_less_than b)
  less_than n bytes =
      pick (suc n) [] (b == 33) _ _ _ _ (λ _. to (suc n) _ stage.CommentBang (bytes ++ b ∷ [], refl, refl))
      (λ _. pick (suc n) [] (b == 60) _ _ _ _ (λ _. to (suc n) _ stage.CommentLessThan (bytes ++ b ∷ [], refl, refl)) (λ _. in_comment n bytes))

  bang : (n : ℕ) (bytes : List ℕ) → Met (suc n) [] (step (T.comment_less_than_sign_bang bytes) b) (M.comment_bang b)
  bang n bytes = pick (suc n) [] (b == 45) _ _ _ _ (λ _. to (suc n) _ stage.CommentBangDash (bytes, refl, refl)) (λ _. in_comment n bytes)

  end_dash : (n : ℕ) (bytes : List ℕ) → Met (suc n) [] (step (T.comment_end_dash bytes) b) (M.comment_end_dash b)
  end_dash n bytes =
      pick (suc n) [] (b == 45) _ _ _ _ (λ _. to (suc n) _ stage.CommentEnd (bytes, refl, refl)) (λ _. in_comment n (bytes ++ codes "-"))

  end_of : (n : ℕ) (bytes : List ℕ) → Met (suc n) [] (step (T.comment_end bytes) b) (M.comment_end b)
  end_of n bytes =
      pick (suc n) [] (b == 62) _ _ _ _ (λ _. comment_whole (suc n) bytes)
      (λ _. pick (suc n) [] (b == 33) _ _ _ _ (λ _. to (suc n) _ stage.CommentEndBang (bytes, refl, refl))
      (λ _. pick (suc n) [] (b == 45) _ _ _ _ (λ _. to (suc n) _ stage.CommentEnd (bytes ++ codes "-", refl, refl)) (λ _. in_comment n (bytes ++ codes "--"))))

  end_bang : (n : ℕ) (bytes : List ℕ) → Met (suc n) [] (step (T.comment_end_bang bytes) b) (M.comment_end_bang b)
  end_bang n bytes =
      pick (suc n) [] (b == 45) _ _ _ _ (λ _. to (suc n) _ stage.CommentEndDash (bytes ++ codes "--!", refl, refl))
      (λ _. pick (suc n) [] (b == 62) _ _ _ _ (λ _. comment_whole (suc n) bytes) (λ _. in_comment n (bytes ++ codes "--!")))

  comment_start : (n : ℕ) → Met (suc n) [] (step T.comment_start b) (M.comment_start b)
  comment_start n =
      pick (suc n) [] (b == 45) _ _ _ _ (λ _. to (suc n) _ stage.CommentStartDash (refl, refl))
      (λ _. pick (suc n) [] (b == 62) _ _ _ _ (λ _. comment_whole (suc n) []) (λ _. in_comment n []))

  comment_start_dash : (n : ℕ) → Met (suc n) [] (step T.comment_start_dash b) (M.comment_start_dash b)
  comment_start_dash n =
      pick (suc n) [] (b == 45) _ _ _ _ (λ _. to (suc n) _ stage.CommentEnd ([], refl, refl))
      (λ _. pick (suc n) [] (b == 62) _ _ _ _ (λ _. comment_whole (suc n) []) (λ _. in_comment n (codes "-")))

  bogus : (n : ℕ) (bytes : List ℕ) → Met n [] (step (T.bogus_comment bytes) b) (M.bogus_comment b)
  bogus n bytes = pick n [] (b == 62) _ _ _ _ (λ _. comment_whole n bytes) (λ _. to n _ stage.BogusComment (bytes ++ char_of b, refl, refl))

  -- the beginnings of markup

  pub letter_no_space : is_ascii_alphabetic b ≡ true → is_white_space b ≡ false
  letter_no_space h = grind arith

  pub letter_no_solidus : is_ascii_alphabetic b ≡ true → (b == 47) ≡ false
  letter_no_solidus h = grind arith

  pub letter_no_greater : is_ascii_alphabetic b ≡ true → (b == 62) ≡ false
  letter_no_greater h = grind arith

  pub letter_ends_no_name : is_ascii_alphabetic b ≡ true → ends_name b ≡ false
  letter_ends_no_name h = rw (letter_no_space h, letter_no_solidus h, letter_no_greater h) refl

  letters_more : (v : List ℕ) → letters (v ++ b ∷ []) ≡ letters v ++ char_of (to_ascii_lowercase b)
  letters_more [] = append-nil (char_of (to_ascii_lowercase b))
  letters_more (c ∷ v) = ap (λ t. char_of (to_ascii_lowercase c) ++ t) (letters_more v) ∙ sym (append_assoc (char_of (to_ascii_lowercase c)) (letters v) (char_of (to_ascii_lowercase b)))

  new_name : (n : ℕ) (is_end : Bool) → w ≡ [] → is_ascii_alphabetic b ≡ true → Met n [] (step (T.tag_name (T.new_tag is_end)) b) (Goes (stage.TagName is_end))
  new_name n is_end e l =
      rw (letter_no_space l, letter_no_solidus l, letter_no_greater l)
      (to n (T.tag_name (T.with_letter (T.new_tag is_end) b)) (stage.TagName is_end)
      (ap (λ v. T.tag_name (record { is_end = is_end; name = v; attributes = [] })) (sym (append-nil (char_of (to_ascii_lowercase b))) ∙ sym (ap (λ v. letters (v ++ b ∷ [])) e)), refl))

  new_bogus : (n : ℕ) (c : ℕ) → (b == c) ≡ true → (c == 62) ≡ false → Met n [] (step (T.bogus_comment []) b) (Goes stage.BogusComment)
  new_bogus n c y g = rw (ap (λ x. x == 62) (eqb-true b c y) ∙ g) (to n (T.bogus_comment (char_of b)) stage.BogusComment (char_of b, refl, refl))

  tag_open : (n : ℕ) → w ≡ [] → Met (suc n) [] (step T.tag_open b) (M.tag_open b)
  tag_open n e =
      pick (suc n) [] (b == 33) _ _ _ _ (λ y. to (suc n) _ stage.Declaration ([], ap₂ (λ (v : List ℕ) c. v ++ c ∷ []) e (eqb-true b 33 y), refl, refl))
      (λ _. pick (suc n) [] (b == 47) _ _ _ _ (λ _. to (suc n) _ stage.EndTagOpen (refl, refl, refl))
      (λ _. pick (suc n) [] (is_ascii_alphabetic b) _ _ _ _ (λ l. new_name n false e l)
      (λ _. pick (suc n) [] (b == 63) _ _ _ _ (λ y. new_bogus n 63 y refl) (λ _. (refl, refl)))))

  end_tag_open : (n : ℕ) → w ≡ [] → Met (suc n) [] (step T.end_tag_open b) (M.end_tag_open b)
  end_tag_open n e =
      pick (suc n) [] (is_ascii_alphabetic b) _ _ _ _ (λ l. new_name n true e l)
      (λ _. elim (cases_Bool (b == 62)) [
        | inl y ↦ rw y (to (suc n) T.data_state (stage.Whole kind.Nothing mode.Data) (refl, refl))
        | inr g ↦ rw g (rw g (to n (T.bogus_comment (char_of b)) stage.BogusComment (char_of b, refl, refl)))
      ])

  -- texts with an end tag of their own

  text_stops : (n : ℕ) (m : Mode) (ts : List HtmlToken) (es : List HtmlToken) → are_characters (ts ++ es) ≡ true →
      Met (suc n) ts (record { next = state_of m; emits = es; again = true }) (Ends kind.Text m)
  text_stops n m ts es h = rw (rests m, Met) (refl, h)

  raw_stops : (n : ℕ) (m : Mode) (bytes : List ℕ) → IsRaw m → IsSome bytes → Met (suc n) [] (T.emitting_again bytes (T.raw (raw_of m))) (Ends kind.Text m)
  raw_stops n m bytes h k = subst (λ (s : State). Met (suc n) [] (T.emitting_again bytes s) (Ends kind.Text m)) h (text_stops n m [] (map Character bytes) (chars bytes k))

  new_double : (n : ℕ) (ts : List HtmlToken) → w ≡ [] → are_characters ts ≡ true → is_ascii_alphabetic b ≡ true →
      Met n ts (step (T.script_data_double_escape_start []) b) (Goes stage.DoubleEscapeStart)
  new_double n ts e h l =
      rw (letter_ends_no_name l, l)
      (stay n ts (map Character (b ∷ [])) (T.script_data_double_escape_start (to_ascii_lowercase b ∷ [])) stage.DoubleEscapeStart
      (ap (λ v. T.script_data_double_escape_start (map to_ascii_lowercase (v ++ b ∷ []))) (sym e), more_chars ts (b ∷ []) h))

  after_less : (n : ℕ) (m : Mode) → w ≡ [] → IsRaw m → Met (suc n) [] (T.after_less_than_sign (raw_of m) b) (M.after_less_than m b)
  after_less n mode.Script e h =
      pick (suc n) [] (b == 33) _ _ _ _ (λ _. stay (suc n) [] (map Character (codes "<!")) T.script_data_escape_start stage.EscapeStart (refl, refl)) (λ _. (refl, refl))
  after_less n mode.ScriptEscaped e h =
      pick (suc n) [] (is_ascii_alphabetic b) _ _ _ _ (λ l. new_double n (map Character (codes "<")) e refl l) (λ _. (refl, refl))
  after_less n mode.Title e h = (refl, refl)
  after_less n mode.Textarea e h = (refl, refl)
  after_less n mode.ContextText e h = (refl, refl)
  after_less n mode.Style e h = (refl, refl)
  after_less n mode.Xmp e h = (refl, refl)
  after_less n mode.Iframe e h = (refl, refl)
  after_less n mode.Noembed e h = (refl, refl)
  after_less n mode.Noframes e h = (refl, refl)
  after_less n mode.Noscript e h = (refl, refl)
  after_less n mode.ScriptEscapedDash e h = (refl, refl)
  after_less n mode.ScriptEscapedDashDash e h = (refl, refl)
  after_less n mode.Data e h = cc
  after_less n mode.Plaintext e h = cc

  raw_less : (n : ℕ) (m : Mode) → w ≡ [] → IsRaw m → Met (suc n) [] (step (T.raw_less_than_sign (raw_of m)) b) (M.raw_less_than m b)
  raw_less n m e h =
      pick (suc n) [] (b == 47) _ _ _ _ (λ _. to (suc n) _ (stage.RawEndTagOpen m) (h, refl, refl, refl)) (λ _. after_less n m e h)

  own_tag : (m : Mode) → IsTag M.end_tag (T.own_end_tag (raw_of m))
  own_tag m = record { end = refl; goes_on = refl }

  appropriate : (m : Mode) → T.is_appropriate (raw_of m) w ≡ M.is_own m w
  appropriate m = ap (bytes_eq (map to_ascii_lowercase w)) (own_is m)

  raw_name : (n : ℕ) (m : Mode) → IsRaw m → Met (suc n) [] (step (T.raw_end_tag_name (raw_of m) w) b) (M.raw_end_tag_name m w b)
  raw_name n m h =
      subst (λ (v : Bool). Met (suc n) [] (step (T.raw_end_tag_name (raw_of m) w) b)
      (if is_white_space b && v then Goes (stage.BeforeKey M.end_tag)
      else if (b == 47) && v then Goes (stage.SelfClosing M.end_tag)
      else if (b == 62) && v then M.tag_end M.end_tag
      else if is_ascii_alphabetic b then Goes (stage.RawEndTagName m)
      else Ends kind.Text m)) (appropriate m)
      (pick (suc n) [] (is_white_space b && T.is_appropriate (raw_of m) w) _ _ _ _ (λ _. to (suc n) _ (stage.BeforeKey M.end_tag) (T.own_end_tag (raw_of m), own_tag m, refl, refl))
      (λ _. pick (suc n) [] ((b == 47) && T.is_appropriate (raw_of m) w) _ _ _ _ (λ _. to (suc n) _ (stage.SelfClosing M.end_tag) (T.own_end_tag (raw_of m), own_tag m, refl, refl))
      (λ _. pick (suc n) [] ((b == 62) && T.is_appropriate (raw_of m) w) _ _ _ _ (λ _. ended (suc n) M.end_tag (T.own_end_tag (raw_of m)) false (own_tag m))
      (λ _. pick (suc n) [] (is_ascii_alphabetic b) _ _ _ _ (λ _. to (suc n) _ (stage.RawEndTagName m) (h, refl, refl))
      (λ _. raw_stops n m (codes "</" ++ w) h tt)))))

  new_raw_name : (n : ℕ) (m : Mode) → w ≡ [] → IsRaw m → is_ascii_alphabetic b ≡ true → Met n [] (step (T.raw_end_tag_name (raw_of m) []) b) (Goes (stage.RawEndTagName m))
  new_raw_name n m e h l =
      rw (letter_no_space l, letter_no_solidus l, letter_no_greater l, l)
      (to n (T.raw_end_tag_name (raw_of m) (b ∷ [])) (stage.RawEndTagName m) (h, ap (λ v. T.raw_end_tag_name (raw_of m) (v ++ b ∷ [])) (sym e), refl))

  raw_open : (n : ℕ) (m : Mode) → w ≡ [] → IsRaw m → Met (suc n) [] (step (T.raw_end_tag_open (raw_of m)) b) (M.raw_end_tag_open m b)
  raw_open n m e h =
      pick (suc n) [] (is_ascii_alphabetic b) _ _ _ _ (λ l. new_raw_name n m e h l) (λ _. raw_stops n m (codes "</") h tt)

  -- escapes of scripts

  escape_start : (n : ℕ) (ts : List HtmlToken) → are_characters ts ≡ true → Met (suc n) ts (step T.script_data_escape_start b) (M.escape_start b)
  escape_start n ts h =
      pick (suc n) ts (b == 45) _ _ _ _ (λ _. stay (suc n) ts (map Character (codes "-")) _ stage.EscapeStartDash (refl, more_chars ts (codes "-") h))
      (λ _. (refl, more_chars ts [] h))

  escape_start_dash : (n : ℕ) (ts : List HtmlToken) → are_characters ts ≡ true → Met (suc n) ts (step T.script_data_escape_start_dash b) (M.escape_start_dash b)
  escape_start_dash n ts h =
      pick (suc n) ts (b == 45) _ _ _ _
      (λ _. stay (suc n) ts (map Character (codes "-")) _ (stage.Whole kind.Text mode.ScriptEscapedDashDash) (refl, more_chars ts (codes "-") h))
      (λ _. (refl, more_chars ts [] h))

  pub lower_more : (v : List ℕ) → map to_ascii_lowercase (v ++ b ∷ []) ≡ map to_ascii_lowercase v ++ to_ascii_lowercase b ∷ []
  lower_more [] = refl
  lower_more (c ∷ v) = ap (λ t. to_ascii_lowercase c ∷ t) (lower_more v)

  word_end : (n : ℕ) (ts : List HtmlToken) (v : Bool) (s u : State) (c d : Stage) → IsStage (next_word c w b) c s (ts ++ map Character (b ∷ [])) →
      IsStage (next_word d w b) d u (ts ++ map Character (b ∷ [])) → Met n ts (T.emitting (b ∷ []) (if v then s else u)) (if v then Goes c else Goes d)
  word_end n ts true s u c d h k = stay n ts (map Character (b ∷ [])) s c h
  word_end n ts false s u c d h k = stay n ts (map Character (b ∷ [])) u d k

  double_start : (n : ℕ) (ts : List HtmlToken) → are_characters ts ≡ true →
      Met (suc n) ts (step (T.script_data_double_escape_start (map to_ascii_lowercase w)) b) (M.double_escape_start w b)
  double_start n ts h =
      let more = more_chars ts (b ∷ []) h in
      pick (suc n) ts (ends_name b) _ _ _ _
      (λ _. word_end (suc n) ts (M.is_script w) T.script_data_double_escaped (T.raw T.script_data_escaped) stage.DoubleEscaped (stage.Whole kind.Text mode.ScriptEscaped) (refl, more) (refl, more))
      (λ _. pick (suc n) ts (is_ascii_alphabetic b) _ _ _ _
      (λ _. stay (suc n) ts (map Character (b ∷ [])) _ stage.DoubleEscapeStart (ap T.script_data_double_escape_start (sym (lower_more w)), more))
      (λ _. (refl, more_chars ts [] h)))

  double_escaped : (n : ℕ) (ts : List HtmlToken) → are_characters ts ≡ true → Met n ts (step T.script_data_double_escaped b) (M.double_escaped b)
  double_escaped n ts h =
      pick n ts (b == 45) _ _ _ _ (λ _. stay n ts (map Character (codes "-")) _ stage.DoubleEscapedDash (refl, more_chars ts (codes "-") h))
      (λ _. pick n ts (b == 60) _ _ _ _ (λ _. stay n ts (map Character (codes "<")) _ stage.DoubleEscapedLessThan (refl, refl, more_chars ts (codes "<") h))
      (λ _. stay n ts (map Character (char_of b)) _ stage.DoubleEscaped (refl, more_chars ts (char_of b) h)))

  double_dash : (n : ℕ) (ts : List HtmlToken) → are_characters ts ≡ true → Met n ts (step T.script_data_double_escaped_dash b) (M.double_escaped_dash b)
  double_dash n ts h =
      pick n ts (b == 45) _ _ _ _ (λ _. stay n ts (map Character (codes "-")) _ stage.DoubleEscapedDashDash (refl, more_chars ts (codes "-") h))
      (λ _. pick n ts (b == 60) _ _ _ _ (λ _. stay n ts (map Character (codes "<")) _ stage.DoubleEscapedLessThan (refl, refl, more_chars ts (codes "<") h))
      (λ _. stay n ts (map Character (char_of b)) _ stage.DoubleEscaped (refl, more_chars ts (char_of b) h)))

  double_dash_dash : (n : ℕ) (ts : List HtmlToken) → are_characters ts ≡ true → Met n ts (step T.script_data_double_escaped_dash_dash b) (M.double_escaped_dash_dash b)
  double_dash_dash n ts h =
      pick n ts (b == 45) _ _ _ _ (λ _. stay n ts (map Character (codes "-")) _ stage.DoubleEscapedDashDash (refl, more_chars ts (codes "-") h))
      (λ _. pick n ts (b == 60) _ _ _ _ (λ _. stay n ts (map Character (codes "<")) _ stage.DoubleEscapedLessThan (refl, refl, more_chars ts (codes "<") h))
      (λ _. pick n ts (b == 62) _ _ _ _ (λ _. stay n ts (map Character (codes ">")) _ (stage.Whole kind.Text mode.Script) (refl, more_chars ts (codes ">") h))
      (λ _. stay n ts (map Character (char_of b)) _ stage.DoubleEscaped (refl, more_chars ts (char_of b) h))))

  double_less : (n : ℕ) (ts : List HtmlToken) → w ≡ [] → are_characters ts ≡ true → Met (suc n) ts (step T.script_data_double_escaped_less_than_sign b) (M.double_escaped_less_than b)
  double_less n ts e h =
      pick (suc n) ts (b == 47) _ _ _ _
      (λ y. stay (suc n) ts (map Character (codes "/")) _ stage.DoubleEscapeEnd ([], ap₂ (λ (v : List ℕ) c. v ++ c ∷ []) e (eqb-true b 47 y), refl, more_chars ts (codes "/") h))
      (λ _. double_escaped n (ts ++ []) (more_chars ts [] h))

  double_end : (n : ℕ) (ts : List HtmlToken) (v : List ℕ) → w ≡ 47 ∷ v → are_characters ts ≡ true →
      Met (suc n) ts (step (T.script_data_double_escape_end (map to_ascii_lowercase v)) b) (M.double_escape_end v b)
  double_end n ts v e h =
      let more = more_chars ts (b ∷ []) h in
      pick (suc n) ts (ends_name b) _ _ _ _
      (λ _. word_end (suc n) ts (M.is_script v) (T.raw T.script_data_escaped) T.script_data_double_escaped (stage.Whole kind.Text mode.ScriptEscaped) stage.DoubleEscaped (refl, more) (refl, more))
      (λ _. pick (suc n) ts (is_ascii_alphabetic b) _ _ _ _
      (λ _. stay (suc n) ts (map Character (b ∷ [])) _ stage.DoubleEscapeEnd
      (v ++ b ∷ [], ap (λ (x : List ℕ). x ++ b ∷ []) e, ap T.script_data_double_escape_end (sym (lower_more v)), more))
      (λ _. double_escaped n (ts ++ []) (more_chars ts [] h)))

  -- declarations

  pub never_eq : (xs word : List ℕ) → list_any (λ x. b == x) word ≡ false → bytes_eq (xs ++ b ∷ []) word ≡ false
  never_eq [] [] h = refl
  never_eq [] (x ∷ word) h = and_left (b == x) _ (or_parts (b == x) _ h).0
  never_eq (y ∷ xs) [] h = refl
  never_eq (y ∷ xs) (x ∷ word) h = and_right (y == x) _ (never_eq xs word (or_parts (b == x) _ h).1)

  pub never_begins : (xs word : List ℕ) → list_any (λ x. b == x) word ≡ false → starts_with ◌==◌ word (xs ++ b ∷ []) ≡ false
  never_begins [] [] h = refl
  never_begins [] (x ∷ word) h = and_left (b == x) _ (or_parts (b == x) _ h).0
  never_begins (y ∷ xs) [] h = refl
  never_begins (y ∷ xs) (x ∷ word) h = and_right (y == x) _ (never_begins xs word (or_parts (b == x) _ h).1)

  declared : (n : ℕ) (v : List ℕ) → w ≡ 33 ∷ v → Met (suc n) [] (step (T.markup_declaration_open v) b) (M.resolve_declaration (v ++ b ∷ []) b)
  declared n v e =
      pick (suc n) [] (bytes_eq (v ++ b ∷ []) (codes "--")) _ _ _ _ (λ _. to (suc n) _ stage.CommentStart (refl, refl))
      (λ _. pick (suc n) [] (bytes_eq (map to_ascii_lowercase (v ++ b ∷ [])) (codes "doctype")) _ _ _ _ (λ _. to (suc n) _ stage.Doctype (refl, refl))
      (λ _. pick (suc n) [] (T.begins (codes "--") (v ++ b ∷ []) || T.begins (codes "doctype") (v ++ b ∷ [])) _ _ _ _
      (λ _. to (suc n) _ stage.Declaration (v ++ b ∷ [], ap (λ (x : List ℕ). x ++ b ∷ []) e, refl, refl))
      (λ _. bogus n v)))

  pub in_no_word : (b == 10) ≡ true → (word : List ℕ) → list_any (λ x. 10 == x) word ≡ false → list_any (λ x. b == x) word ≡ false
  in_no_word y word h = ap (λ c. list_any (λ x. c == x) word) (eqb-true b 10 y) ∙ h

  pub lower_feed : (b == 10) ≡ true → (v : List ℕ) → map to_ascii_lowercase (v ++ b ∷ []) ≡ map to_ascii_lowercase v ++ b ∷ []
  lower_feed y v = lower_more v ∙ ap (λ c. map to_ascii_lowercase v ++ c ∷ []) (ap to_ascii_lowercase (eqb-true b 10 y) ∙ sym (eqb-true b 10 y))

  after_feed : (n : ℕ) (v : List ℕ) → (b == 10) ≡ true → Met (suc n) [] (step (T.markup_declaration_open v) b) (M.bogus_comment b)
  after_feed n v y =
      let low = lower_feed y v in
      let a = never_eq v (codes "--") (in_no_word y (codes "--") refl) in
      let c : bytes_eq (map to_ascii_lowercase (v ++ b ∷ [])) (codes "doctype") ≡ false =
      ap (λ x. bytes_eq x (codes "doctype")) low ∙ never_eq (map to_ascii_lowercase v) (codes "doctype") (in_no_word y (codes "doctype") refl) in
      let d : T.begins (codes "--") (v ++ b ∷ []) ≡ false =
      ap (λ x. starts_with ◌==◌ (codes "--") x) low ∙ never_begins (map to_ascii_lowercase v) (codes "--") (in_no_word y (codes "--") refl) in
      let e : T.begins (codes "doctype") (v ++ b ∷ []) ≡ false =
      ap (λ x. starts_with ◌==◌ (codes "doctype") x) low ∙ never_begins (map to_ascii_lowercase v) (codes "doctype") (in_no_word y (codes "doctype") refl) in
      cond_both (bytes_eq (v ++ b ∷ []) (codes "--")) _ _ (λ x. Met (suc n) [] x (M.bogus_comment b)) (λ t. absurd (true≢false (sym t ∙ a)))
      (λ _. cond_both (bytes_eq (map to_ascii_lowercase (v ++ b ∷ [])) (codes "doctype")) _ _ (λ x. Met (suc n) [] x (M.bogus_comment b)) (λ t. absurd (true≢false (sym t ∙ c)))
      (λ _. cond_both (T.begins (codes "--") (v ++ b ∷ []) || T.begins (codes "doctype") (v ++ b ∷ [])) _ _ (λ x. Met (suc n) [] x (M.bogus_comment b))
      (λ t. absurd (true≢false (sym t ∙ ap₂ ◌||◌ d e))) (λ _. bogus n v)))

  declaration : (n : ℕ) (v : List ℕ) → w ≡ 33 ∷ v → Met (suc n) [] (step (T.markup_declaration_open v) b) (M.declaration w b)
  declaration n v e =
      subst (λ (x : List ℕ). Met (suc n) [] (step (T.markup_declaration_open v) b) (M.declaration x b)) (sym e)
      (cond_both (b == 10) _ _ (Met (suc n) [] (step (T.markup_declaration_open v) b)) (λ y. after_feed n v y) (λ _. declared n v e))

  -- names

  named_is : (is_end : Bool) → IsTag (M.named_tag is_end w) (record { is_end = is_end; name = letters w; attributes = [] })
  named_is true = record { end = refl; goes_on = refl }
  named_is false = record { end = refl; goes_on = after_start_is w }

  in_name : (n : ℕ) (is_end : Bool) →
      Met n [] (step (T.tag_name (record { is_end = is_end; name = letters w; attributes = [] })) b) (M.tag_name is_end w b)
  in_name n is_end =
      let o : OpenTag = record { is_end = is_end; name = letters w; attributes = [] } in
      pick n [] (is_white_space b) _ _ _ _ (λ _. to n (T.before_attribute_name o) (stage.BeforeKey (M.named_tag is_end w)) (o, named_is is_end, refl, refl))
      (λ _. pick n [] (b == 47) _ _ _ _ (λ _. to n (T.self_closing_start_tag o) (stage.SelfClosing (M.named_tag is_end w)) (o, named_is is_end, refl, refl))
      (λ _. pick n [] (b == 62) _ _ _ _ (λ _. ended n (M.named_tag is_end w) o false (named_is is_end))
      (λ _. to n (T.tag_name (T.with_letter o b)) (stage.TagName is_end)
      (ap (λ v. T.tag_name (record { is_end = is_end; name = v; attributes = [] })) (sym (letters_more w)), refl))))

  -- each stage

  moved : (s r : State) (ts : List HtmlToken) (o : Turn) → s ≡ r → ts ≡ [] → Met 2 [] (step r b) o → Met 2 ts (step s b) o
  moved s r ts o e t h = subst (λ (x : List HtmlToken). Met 2 x (step s b) o) (sym t) (subst (λ (x : State). Met 2 [] (step x b) o) (sym e) h)

  moved_on : (s r : State) (ts : List HtmlToken) (o : Turn) → s ≡ r → Met 2 ts (step r b) o → Met 2 ts (step s b) o
  moved_on s r ts o e h = subst (λ (x : State). Met 2 ts (step x b) o) (sym e) h

  pub met : (c : Stage) (s : State) (ts : List HtmlToken) → IsStage w c s ts → IsBegun c → Met 2 ts (step s b) (M.turn c w b)
  met (stage.Whole k m) s ts h g = absurd g
  met (stage.Reference p) s ts (r, h, e, t) g = moved s _ ts _ e t (reference 1 p r h)
  met (stage.NamedReference p) s ts (r, buffer, some, h, e, t) g = moved s _ ts _ e t (named 1 p r buffer h)
  met (stage.NumericReference p) s ts (r, h, e, t) g = moved s _ ts _ e t (numeric 0 p r h)
  met (stage.HexadecimalStart p) s ts (r, x, h, e, t) g = moved s _ ts _ e t (hexadecimal_start 1 p r x h)
  met (stage.DecimalStart p) s ts (r, h, e, t) g = moved s _ ts _ e t (decimal_start 1 p r h)
  met (stage.Hexadecimal p) s ts (r, code, h, e, t) g = moved s _ ts _ e t (hexadecimal 1 p r code h)
  met (stage.Decimal p) s ts (r, code, h, e, t) g = moved s _ ts _ e t (decimal 1 p r code h)
  met stage.TagOpen s ts (x, e, t) g = moved s _ ts _ e t (tag_open 1 x)
  met stage.EndTagOpen s ts (x, e, t) g = moved s _ ts _ e t (end_tag_open 1 x)
  met (stage.TagName is_end) s ts (e, t) g = moved s _ ts _ e t (in_name 2 is_end)
  met (stage.RawLessThan m) s ts (h, x, e, t) g = moved s _ ts _ e t (raw_less 1 m x h)
  met (stage.RawEndTagOpen m) s ts (h, x, e, t) g = moved s _ ts _ e t (raw_open 1 m x h)
  met (stage.RawEndTagName m) s ts (h, e, t) g = moved s _ ts _ e t (raw_name 1 m h)
  met stage.EscapeStart s ts (e, t) g = moved_on s _ ts _ e (escape_start 1 ts t)
  met stage.EscapeStartDash s ts (e, t) g = moved_on s _ ts _ e (escape_start_dash 1 ts t)
  met stage.DoubleEscapeStart s ts (e, t) g = moved_on s _ ts _ e (double_start 1 ts t)
  met stage.DoubleEscaped s ts (e, t) g = moved_on s _ ts _ e (double_escaped 2 ts t)
  met stage.DoubleEscapedDash s ts (e, t) g = moved_on s _ ts _ e (double_dash 2 ts t)
  met stage.DoubleEscapedDashDash s ts (e, t) g = moved_on s _ ts _ e (double_dash_dash 2 ts t)
  met stage.DoubleEscapedLessThan s ts (x, e, t) g = moved_on s _ ts _ e (double_less 1 ts x t)
  met stage.DoubleEscapeEnd s ts (v, x, e, t) g =
      subst (λ (u : List ℕ). Met 2 ts (step s b) (M.double_escape_end (drop 1 u) b)) (sym x) (moved_on s _ ts _ e (double_end 1 ts v x t))
  met (stage.BeforeKey tag) s ts (o, h, e, t) g = moved s _ ts _ e t (before_key 1 tag o h)
  met (stage.Key tag) s ts (o, key, h, e, t) g = moved s _ ts _ e t (in_key 1 tag o key h)
  met (stage.AfterKey tag) s ts (o, key, h, e, t) g = moved s _ ts _ e t (after_key 1 tag o key h)
  met (stage.BeforeValue tag) s ts (o, key, h, e, t) g = moved s _ ts _ e t (before_value 1 tag o key h)
  met (stage.Value q tag) s ts ((o, key, v, h, e), t) g = moved s s ts _ refl t (value 2 q tag o key v s h e)
  met (stage.AfterValue tag) s ts (o, h, e, t) g = moved s _ ts _ e t (after_value 0 tag o h)
  met (stage.SelfClosing tag) s ts (o, h, e, t) g = moved s _ ts _ e t (self_closing 0 tag o h)
  met stage.BogusComment s ts (bytes, e, t) g = moved s _ ts _ e t (bogus 2 bytes)
  met stage.Declaration s ts (v, x, e, t) g = moved s _ ts _ e t (declaration 1 v x)
  met stage.CommentStart s ts (e, t) g = moved s _ ts _ e t (comment_start 1)
  met stage.CommentStartDash s ts (e, t) g = moved s _ ts _ e t (comment_start_dash 1)
  met stage.Comment s ts (bytes, e, t) g = moved s _ ts _ e t (in_comment 2 bytes)
  met stage.CommentLessThan s ts (bytes, e, t) g = moved s _ ts _ e t (less_than 1 bytes)
  met stage.CommentBang s ts (bytes, e, t) g = moved s _ ts _ e t (bang 1 bytes)
  met stage.CommentBangDash s ts (bytes, e, t) g =
      moved s _ ts _ e t (pick 2 [] (b == 45) _ _ _ _ (λ _. to 2 _ stage.CommentBangDashDash (bytes, refl, refl)) (λ _. end_dash 0 bytes))
  met stage.CommentBangDashDash s ts (bytes, e, t) g = moved s _ ts _ e t (end_of 0 bytes)
  met stage.CommentEndDash s ts (bytes, e, t) g = moved s _ ts _ e t (end_dash 1 bytes)
  met stage.CommentEnd s ts (bytes, e, t) g = moved s _ ts _ e t (end_of 1 bytes)
  met stage.CommentEndBang s ts (bytes, e, t) g = moved s _ ts _ e t (end_bang 1 bytes)
  met stage.Doctype s ts (e, t) g =
      moved s _ ts _ e t (pick 2 [] (b == 62) _ _ _ _ (λ _. stay 2 [] (DoctypeToken ∷ []) T.data_state (stage.Whole kind.Doctype mode.Data) (refl, tt))
      (λ _. to 2 _ stage.Doctype (refl, refl)))
