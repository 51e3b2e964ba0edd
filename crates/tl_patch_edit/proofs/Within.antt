-- What a text is in, as the code has it, is what the tokenizer is in.
use Rattle.std.proofs.Common.{◌≡◌, ◌⊎◌, ℕ, suc, zero, Bool, true, false, ◌==◌, ◌&&◌, List, [], ◌∷◌, ◌++◌, Option, Some, None, refl, ap, ap₂, sym, subst, ◌∙◌, inl, inr, true≢false, append-nil, if◌then◌else◌}
use Rattle.std.specs.Prelude.{◌+◌, ◌*◌, ◌||◌, codes, map, not}
use Rattle.std.specs.Str.{bytes_eq}
use Rattle.tl_names.specs.Elements.{is_among, rawtext_names, rcdata_names}
use Rattle.std.specs.Char.{is_ascii_alphabetic, is_ascii_alphanumeric, is_ascii_digit, is_ascii_hexdigit, to_ascii_lowercase}
use Rattle.std.proofs.lemmas.Bool.{cases_Bool, eqb-true}
use Rattle.tl_html_spec.specs.HtmlTokenizer as T
use Rattle.tl_html_spec.specs.HtmlTokenizer.{HtmlToken, State, Step, at_end, data_state, settled, step, whole_step}
use Rattle.tl_html_spec.specs.Pieces.{are_characters}
use Rattle.tl_html_spec.specs.References.{named_value, number_value}
use Rattle.tl_html_spec.proofs.Resting.{settled_at_once}
use Rattle.tl_html_spec.specs.Reader.{Reader, Rest, at, emitted, feed, is_at_rest, next, read, rest_before, rest_within, resting}
use Rattle.tl_html_tokens.proofs.Others.{apart}
use Rattle.tl_html_tokens.proofs.Passing.{feed_is}
use Rattle.tl_html_tokens.proofs.Reading.{read_passed, read_plain, rest_passed, rest_plain}
use Rattle.tl_patch_edit.specs.Inner.Within.{first, going_on, is_markup}
use Rattle.tl_patch_edit.specs.declared.seam.Within.{Within}
use Rattle.tl_patch_edit.specs.declared.seam.Within.TheVariants as within

-- states of tags, comments and doctypes
abbrev pub is_marked : State → Bool
is_marked (T.tag_name tag) = true
is_marked (T.before_attribute_name tag) = true
is_marked (T.attribute_name tag key) = true
is_marked (T.after_attribute_name tag key) = true
is_marked (T.before_attribute_value tag key) = true
is_marked (T.double_quoted tag key value) = true
is_marked (T.single_quoted tag key value) = true
is_marked (T.unquoted tag key value) = true
is_marked (T.after_attribute_value tag) = true
is_marked (T.self_closing_start_tag tag) = true
is_marked (T.bogus_comment bytes) = true
is_marked (T.markup_declaration_open buffer) = true
is_marked T.comment_start = true
is_marked T.comment_start_dash = true
is_marked (T.comment bytes) = true
is_marked (T.comment_less_than_sign bytes) = true
is_marked (T.comment_less_than_sign_bang bytes) = true
is_marked (T.comment_less_than_sign_bang_dash bytes) = true
is_marked (T.comment_less_than_sign_bang_dash_dash bytes) = true
is_marked (T.comment_end_dash bytes) = true
is_marked (T.comment_end bytes) = true
is_marked (T.comment_end_bang bytes) = true
is_marked T.doctype = true
is_marked (T.character_reference s) = T.is_value s
is_marked (T.named_character_reference s buffer) = T.is_value s
is_marked (T.numeric_character_reference s) = T.is_value s
is_marked (T.hexadecimal_start s x) = T.is_value s
is_marked (T.decimal_start s) = T.is_value s
is_marked (T.hexadecimal s code) = T.is_value s
is_marked (T.decimal s code) = T.is_value s
is_marked _ = false

-- a tag or a comment that is not ended, or ended
abbrev pub InMarkup : State → List HtmlToken → Type 0
InMarkup s ts = ((is_marked s ≡ true) × (ts ≡ [])) ⊎ ((is_at_rest s ≡ true) × (are_characters ts ≡ false))

-- the state and what the piece has emitted
abbrev pub InPiece : Within → State → List HtmlToken → Type 0
InPiece within.Text s ts = s ≡ data_state
InPiece within.Return s ts = s ≡ data_state
InPiece within.Reference s ts = s ≡ T.character_reference data_state
InPiece within.Name s ts = (buffer : List ℕ) × (s ≡ T.named_character_reference data_state buffer)
InPiece within.Number s ts = s ≡ T.numeric_character_reference data_state
InPiece within.HexadecimalStart s ts = (x : ℕ) × (s ≡ T.hexadecimal_start data_state x)
InPiece within.Hexadecimal s ts = (code : ℕ) × (s ≡ T.hexadecimal data_state code)
InPiece within.Decimal s ts = (code : ℕ) × (s ≡ T.decimal data_state code)
InPiece within.TagOpen s ts = (s ≡ T.tag_open) × (ts ≡ [])
InPiece within.EndTagOpen s ts = (s ≡ T.end_tag_open) × (ts ≡ [])
InPiece within.Markup s ts = InMarkup s ts

abbrev pub is_return : Within → Bool
is_return within.Return = true
is_return _ = false

module _ (c : ℕ) where
  abbrev pub Turned : State → List HtmlToken → Option Within → Type 0
  Turned s ts None = (rest : Rest) × (rest_within 2 s c ≡ Some rest) × (rest.state ≡ data_state)
  Turned s ts (Some w) = (rest_within 2 s c ≡ None) × InPiece w (whole_step s c).next (ts ++ (whole_step s c).emits)

  -- a step that reads the byte
  here : (s : State) (x : Step) → is_at_rest s ≡ false → step s c ≡ x → x.again ≡ false → (rest_within 2 s c ≡ None) × (whole_step s c ≡ x)
  here s x f e g =
      let a : (step s c).again ≡ false = ap (λ (y : Step). y.again) e ∙ g in
      (rw (f, a) refl, settled_at_once 3 (step s c) c a ∙ e)

  -- one before which another reads it once more
  again : (s t : State) (x : Step) → is_at_rest s ≡ false → is_at_rest t ≡ false → step s c ≡ T.again_in t → step t c ≡ x → x.again ≡ false →
      (rest_within 2 s c ≡ None) × ((whole_step s c).next ≡ x.next)
  again s t x f f' e e' g =
      let a : (step s c).again ≡ true = ap (λ (y : Step). y.again) e in
      let n : (step s c).next ≡ t = ap (λ (y : Step). y.next) e in
      let a' : (step t c).again ≡ false = ap (λ (y : Step). y.again) e' ∙ g in (
        rw (f, a, n, f', a') refl,
        ap (λ (y : Step). (settled 3 y c).next) e ∙ ap (λ (y : Step). y.next) (settled_at_once 2 (step t c) c a' ∙ e'),
      )

  leaves : (s : State) (ts : List HtmlToken) (bytes : List ℕ) → is_at_rest s ≡ false → step s c ≡ T.emitting_again bytes data_state → Turned s ts None
  leaves s ts bytes f e =
      let a : (step s c).again ≡ true = ap (λ (y : Step). y.again) e in
      let n : (step s c).next ≡ data_state = ap (λ (y : Step). y.next) e in
      (record { state = data_state; emits = (step s c).emits ++ [] }, rw (f, a, n) refl, refl)

  -- the same after one more
  leaves_again : (s t : State) (ts : List HtmlToken) (bytes : List ℕ) → is_at_rest s ≡ false → is_at_rest t ≡ false → step s c ≡ T.again_in t → step t c ≡ T.emitting_again bytes data_state → Turned s ts None
  leaves_again s t ts bytes f f' e e' =
      let a : (step s c).again ≡ true = ap (λ (y : Step). y.again) e in
      let n : (step s c).next ≡ t = ap (λ (y : Step). y.next) e in
      let a' : (step t c).again ≡ true = ap (λ (y : Step). y.again) e' in
      let n' : (step t c).next ≡ data_state = ap (λ (y : Step). y.next) e' in
      (record { state = data_state; emits = (step s c).emits ++ ((step t c).emits ++ []) }, rw (f, a, n, f', a', n') refl, refl)

  goes : (s : State) (ts : List HtmlToken) (w : Within) (x : Step) → is_at_rest s ≡ false → step s c ≡ x → x.again ≡ false → InPiece w x.next (ts ++ x.emits) → Turned s ts (Some w)
  goes s ts w x f e g h = let r = here s x f e g in (r.0, subst (λ (y : Step). InPiece w y.next (ts ++ y.emits)) (sym r.1) h)

  in_name : (buffer : List ℕ) (ts : List HtmlToken) → Turned (T.named_character_reference data_state buffer) ts (going_on within.Name c)
  in_name buffer ts = elim (cases_Bool (is_ascii_alphanumeric c)) [
    | inl y ↦ rw y (goes (T.named_character_reference data_state buffer) ts within.Name (T.to (T.named_character_reference data_state (buffer ++ c ∷ []))) refl (rw (y, step) refl) refl (buffer ++ c ∷ [], refl))
    | inr n ↦ elim (cases_Bool (c == 59)) [
      | inl y ↦ rw (n, y) (goes (T.named_character_reference data_state buffer) ts within.Text (T.emitting (named_value false (buffer ++ c ∷ []) []) data_state) refl (rw (n, y, step) refl) refl refl)
      | inr z ↦ rw (n, z) (leaves (T.named_character_reference data_state buffer) ts (named_value false buffer (c ∷ [])) refl (rw (n, z, step) refl))
    ]
  ]

  in_reference : (ts : List HtmlToken) → Turned (T.character_reference data_state) ts (going_on within.Reference c)
  in_reference ts = elim (cases_Bool (is_ascii_alphanumeric c)) [
    | inl y ↦ rw y (
        let r = again (T.character_reference data_state) (T.named_character_reference data_state []) (T.to (T.named_character_reference data_state (c ∷ []))) refl refl (rw (y, step) refl) (rw (y, step) refl) refl in
        (r.0, (c ∷ [], r.1)))
    | inr n ↦ elim (cases_Bool (c == 35)) [
      | inl y ↦ rw (n, y) (goes (T.character_reference data_state) ts within.Number (T.to (T.numeric_character_reference data_state)) refl (rw (n, y, step) refl) refl refl)
      | inr z ↦ rw (n, z) (leaves (T.character_reference data_state) ts (codes "&") refl (rw (n, z, step) refl))
    ]
  ]

  in_number : (ts : List HtmlToken) → Turned (T.numeric_character_reference data_state) ts (going_on within.Number c)
  in_number ts = elim (cases_Bool (to_ascii_lowercase c == 120)) [
    | inl y ↦ rw y (goes (T.numeric_character_reference data_state) ts within.HexadecimalStart (T.to (T.hexadecimal_start data_state c)) refl (rw (y, step) refl) refl (c, refl))
    | inr n ↦ elim (cases_Bool (is_ascii_digit c)) [
      | inl y ↦ rw (n, y) (
          let s : State = T.numeric_character_reference data_state in
          let r = again_twice s (T.decimal_start data_state) (T.decimal data_state 0) (T.to (T.decimal data_state (0 + T.digit_value c))) refl refl refl (rw (n, step) refl) (rw (y, step) refl) (rw (y, step) refl) refl in
          (r.0, (0 + T.digit_value c, r.1)))
      | inr z ↦ rw (n, z) (leaves_again (T.numeric_character_reference data_state) (T.decimal_start data_state) ts (codes "&#") refl refl (rw (n, step) refl) (rw (z, step) refl))
    ]
  ]
    where
      again_twice : (s t u : State) (x : Step) → is_at_rest s ≡ false → is_at_rest t ≡ false → is_at_rest u ≡ false →
          step s c ≡ T.again_in t → step t c ≡ T.again_in u → step u c ≡ x → x.again ≡ false → (rest_within 2 s c ≡ None) × ((whole_step s c).next ≡ x.next)
      again_twice s t u x f f' f'' e e' e'' g =
          let a : (step s c).again ≡ true = ap (λ (y : Step). y.again) e in
          let n : (step s c).next ≡ t = ap (λ (y : Step). y.next) e in
          let a' : (step t c).again ≡ true = ap (λ (y : Step). y.again) e' in
          let n' : (step t c).next ≡ u = ap (λ (y : Step). y.next) e' in
          let a'' : (step u c).again ≡ false = ap (λ (y : Step). y.again) e'' ∙ g in (
            rw (f, a, n, f', a', n', f'') refl,
            ap (λ (y : Step). (settled 3 y c).next) e ∙ ap (λ (y : Step). (settled 2 y c).next) e' ∙ ap (λ (y : Step). y.next) (settled_at_once 1 (step u c) c a'' ∙ e''),
          )

  in_hexadecimal_start : (x : ℕ) (ts : List HtmlToken) → Turned (T.hexadecimal_start data_state x) ts (going_on within.HexadecimalStart c)
  in_hexadecimal_start x ts = elim (cases_Bool (is_ascii_hexdigit c)) [
    | inl y ↦ rw y (
        let r = again (T.hexadecimal_start data_state x) (T.hexadecimal data_state 0) (T.to (T.hexadecimal data_state (0 + T.digit_value c))) refl refl (rw (y, step) refl) (rw (y, step) refl) refl in
        (r.0, (0 + T.digit_value c, r.1)))
    | inr n ↦ rw n (leaves (T.hexadecimal_start data_state x) ts (codes "&#" ++ x ∷ []) refl (rw (n, step) refl))
  ]

  in_hexadecimal : (code : ℕ) (ts : List HtmlToken) → Turned (T.hexadecimal data_state code) ts (going_on within.Hexadecimal c)
  in_hexadecimal code ts = elim (cases_Bool (is_ascii_hexdigit c)) [
    | inl y ↦ rw y (goes (T.hexadecimal data_state code) ts within.Hexadecimal (T.to (T.hexadecimal data_state (code * 16 + T.digit_value c))) refl (rw (y, step) refl) refl (code * 16 + T.digit_value c, refl))
    | inr n ↦ elim (cases_Bool (c == 59)) [
      | inl y ↦ rw (n, y) (goes (T.hexadecimal data_state code) ts within.Text (T.emitting (number_value code) data_state) refl (rw (n, y, step) refl) refl refl)
      | inr z ↦ rw (n, z) (leaves (T.hexadecimal data_state code) ts (number_value code) refl (rw (n, z, step) refl))
    ]
  ]

  in_decimal : (code : ℕ) (ts : List HtmlToken) → Turned (T.decimal data_state code) ts (going_on within.Decimal c)
  in_decimal code ts = elim (cases_Bool (is_ascii_digit c)) [
    | inl y ↦ rw y (goes (T.decimal data_state code) ts within.Decimal (T.to (T.decimal data_state (code * 10 + T.digit_value c))) refl (rw (y, step) refl) refl (code * 10 + T.digit_value c, refl))
    | inr n ↦ elim (cases_Bool (c == 59)) [
      | inl y ↦ rw (n, y) (goes (T.decimal data_state code) ts within.Text (T.emitting (number_value code) data_state) refl (rw (n, y, step) refl) refl refl)
      | inr z ↦ rw (n, z) (leaves (T.decimal data_state code) ts (number_value code) refl (rw (n, z, step) refl))
    ]
  ]

  -- tags, comments and doctypes

  record Marks (x : Step) : Type 0 where
    marks : ((is_marked x.next ≡ true) × (x.emits ≡ [])) ⊎ ((x.again ≡ false) × (is_at_rest x.next ≡ true) × (are_characters x.emits ≡ false))

  pick : (v : Bool) (x y : Step) → Marks x → Marks y → Marks (if v then x else y)
  pick true x y h k = h
  pick false x y h k = k

  stays : (s : State) (v : Bool) → is_marked s ≡ true → Marks (record { next = s; emits = []; again = v })
  stays s v h = record { marks = inl (h, refl) }

  token : (t : HtmlToken) (s : State) → is_at_rest s ≡ true → are_characters (t ∷ []) ≡ false → Marks (T.emitting_token t s)
  token t s h k = record { marks = inr (refl, h, k) }

  at_rest : (v : Bool) (s t : State) → is_at_rest s ≡ true → is_at_rest t ≡ true → is_at_rest (if v then s else t) ≡ true
  at_rest true s t h k = h
  at_rest false s t h k = k

  started : (name : List ℕ) → is_at_rest (T.after_start name) ≡ true
  started name =
      at_rest (is_among rcdata_names name) _ _ refl (at_rest (is_among rawtext_names name) _ _ refl
      (at_rest (bytes_eq name (codes "script")) _ _ refl (at_rest (bytes_eq name (codes "plaintext")) _ _ refl refl)))

  tagged : (tag : T.OpenTag) (closes : Bool) → Marks (T.emitted tag closes)
  tagged tag closes = pick tag.is_end _ _ (token (T.EndTag tag.name) data_state refl refl) (token (T.StartTag tag.name tag.attributes closes) (T.after_start tag.name) (started tag.name) refl)

  flushed : (s : State) (bytes : List ℕ) (v : Bool) → T.is_value s ≡ true → Marks (T.flushed s bytes v)
  flushed (T.double_quoted tag key value) bytes v h = stays _ v refl
  flushed (T.single_quoted tag key value) bytes v h = stays _ v refl
  flushed (T.unquoted tag key value) bytes v h = stays _ v refl
  flushed _ bytes v h = absurd (true≢false (sym h))

  marks : (s : State) → is_marked s ≡ true → Marks (step s c)
  marks (T.tag_name tag) h = pick (T.is_white_space c) _ _ (stays _ _ refl) (pick (c == 47) _ _ (stays _ _ refl) (pick (c == 62) _ _ (tagged tag false) (stays _ _ refl)))
  marks (T.before_attribute_name tag) h =
      pick (T.is_white_space c) _ _ (stays _ _ refl) (pick (c == 47) _ _ (stays _ _ refl) (pick (c == 62) _ _ (tagged tag false) (pick (c == 61) _ _ (stays _ _ refl) (stays _ _ refl))))
  marks (T.attribute_name tag key) h = pick (T.ends_name c) _ _ (stays _ _ refl) (pick (c == 61) _ _ (stays _ _ refl) (stays _ _ refl))
  marks (T.after_attribute_name tag key) h =
      pick (T.is_white_space c) _ _ (stays _ _ refl) (pick (c == 47) _ _ (stays _ _ refl) (pick (c == 61) _ _ (stays _ _ refl)
      (pick (c == 62) _ _ (tagged (T.with_attribute tag key []) false) (stays _ _ refl))))
  marks (T.before_attribute_value tag key) h =
      pick (T.is_white_space c) _ _ (stays _ _ refl) (pick (c == 34) _ _ (stays _ _ refl) (pick (c == 39) _ _ (stays _ _ refl)
      (pick (c == 62) _ _ (tagged (T.with_attribute tag key []) false) (stays _ _ refl))))
  marks (T.double_quoted tag key value) h = pick (c == 34) _ _ (stays _ _ refl) (pick (c == 38) _ _ (stays _ _ refl) (stays _ _ refl))
  marks (T.single_quoted tag key value) h = pick (c == 39) _ _ (stays _ _ refl) (pick (c == 38) _ _ (stays _ _ refl) (stays _ _ refl))
  marks (T.unquoted tag key value) h =
      pick (T.is_white_space c) _ _ (stays _ _ refl) (pick (c == 38) _ _ (stays _ _ refl) (pick (c == 62) _ _ (tagged (T.with_attribute tag key value) false) (stays _ _ refl)))
  marks (T.after_attribute_value tag) h =
      pick (T.is_white_space c) _ _ (stays _ _ refl) (pick (c == 47) _ _ (stays _ _ refl) (pick (c == 62) _ _ (tagged tag false) (stays _ _ refl)))
  marks (T.self_closing_start_tag tag) h = pick (c == 62) _ _ (tagged tag true) (stays _ _ refl)
  marks (T.bogus_comment bytes) h = pick (c == 62) _ _ (token (T.CommentToken bytes) data_state refl refl) (stays _ _ refl)
  marks (T.markup_declaration_open buffer) h =
      pick (bytes_eq (buffer ++ c ∷ []) (codes "--")) _ _ (stays _ _ refl) (pick (bytes_eq (map to_ascii_lowercase (buffer ++ c ∷ [])) (codes "doctype")) _ _ (stays _ _ refl)
      (pick (T.begins (codes "--") (buffer ++ c ∷ []) || T.begins (codes "doctype") (buffer ++ c ∷ [])) _ _ (stays _ _ refl) (stays _ _ refl)))
  marks T.comment_start h = pick (c == 45) _ _ (stays _ _ refl) (pick (c == 62) _ _ (token (T.CommentToken []) data_state refl refl) (stays _ _ refl))
  marks T.comment_start_dash h = pick (c == 45) _ _ (stays _ _ refl) (pick (c == 62) _ _ (token (T.CommentToken []) data_state refl refl) (stays _ _ refl))
  marks (T.comment bytes) h = pick (c == 60) _ _ (stays _ _ refl) (pick (c == 45) _ _ (stays _ _ refl) (stays _ _ refl))
  marks (T.comment_less_than_sign bytes) h = pick (c == 33) _ _ (stays _ _ refl) (pick (c == 60) _ _ (stays _ _ refl) (stays _ _ refl))
  marks (T.comment_less_than_sign_bang bytes) h = pick (c == 45) _ _ (stays _ _ refl) (stays _ _ refl)
  marks (T.comment_less_than_sign_bang_dash bytes) h = pick (c == 45) _ _ (stays _ _ refl) (stays _ _ refl)
  marks (T.comment_less_than_sign_bang_dash_dash bytes) h = stays _ _ refl
  marks (T.comment_end_dash bytes) h = pick (c == 45) _ _ (stays _ _ refl) (stays _ _ refl)
  marks (T.comment_end bytes) h =
      pick (c == 62) _ _ (token (T.CommentToken bytes) data_state refl refl) (pick (c == 33) _ _ (stays _ _ refl) (pick (c == 45) _ _ (stays _ _ refl) (stays _ _ refl)))
  marks (T.comment_end_bang bytes) h = pick (c == 45) _ _ (stays _ _ refl) (pick (c == 62) _ _ (token (T.CommentToken bytes) data_state refl refl) (stays _ _ refl))
  marks T.doctype h = pick (c == 62) _ _ (token T.DoctypeToken data_state refl refl) (stays _ _ refl)
  marks (T.character_reference s) h = pick (is_ascii_alphanumeric c) _ _ (stays _ _ h) (pick (c == 35) _ _ (stays _ _ h) (flushed s (codes "&") true h))
  marks (T.named_character_reference s buffer) h =
      pick (is_ascii_alphanumeric c) _ _ (stays _ _ h) (pick (c == 59) _ _ (flushed s (named_value (T.is_value s) (buffer ++ c ∷ []) []) false h)
      (flushed s (named_value (T.is_value s) buffer (c ∷ [])) true h))
  marks (T.numeric_character_reference s) h = pick (to_ascii_lowercase c == 120) _ _ (stays _ _ h) (stays _ _ h)
  marks (T.hexadecimal_start s x) h = pick (is_ascii_hexdigit c) _ _ (stays _ _ h) (flushed s (codes "&#" ++ x ∷ []) true h)
  marks (T.decimal_start s) h = pick (is_ascii_digit c) _ _ (stays _ _ h) (flushed s (codes "&#") true h)
  marks (T.hexadecimal s code) h = pick (is_ascii_hexdigit c) _ _ (stays _ _ h) (flushed s (number_value code) (not (c == 59)) h)
  marks (T.decimal s code) h = pick (is_ascii_digit c) _ _ (stays _ _ h) (flushed s (number_value code) (not (c == 59)) h)
  marks _ h = absurd (true≢false (sym h))

  restless : (s : State) → is_marked s ≡ true → is_at_rest s ≡ false
  restless data_state h = absurd (true≢false (sym h))
  restless (T.raw r) h = absurd (true≢false (sym h))
  restless T.plaintext h = absurd (true≢false (sym h))
  restless _ h = refl

  settled_again : (n : ℕ) (x : Step) → x.again ≡ true → settled (suc n) x c ≡ (record (settled n (step x.next c) c) { emits = x.emits ++ (settled n (step x.next c) c).emits })
  settled_again n x h = rw h refl

  goes_on : (x : Step) → Marks x → x.again ≡ true → (is_marked x.next ≡ true) × (x.emits ≡ [])
  goes_on x h e = elim h.marks [
    | inl k ↦ k
    | inr k ↦ absurd (true≢false (sym e ∙ k.0))
  ]

  cut_short : (x : Step) → Marks x → InMarkup x.next x.emits
  cut_short x h = elim h.marks [
    | inl k ↦ inl k
    | inr k ↦ inr (k.1, k.2)
  ]

  settles : (n : ℕ) (x : Step) → Marks x → InMarkup (settled n x c).next (settled n x c).emits
  settles zero x h = cut_short x h
  settles (suc n) x h = elim (cases_Bool x.again) [
    | inr g ↦ subst (λ (y : Step). InMarkup y.next y.emits) (sym (settled_at_once (suc n) x c g)) (cut_short x h)
    | inl g ↦ (
        let k = goes_on x h g in
        let r : Step = settled n (step x.next c) c in
        subst (λ (y : Step). InMarkup y.next y.emits) (sym (settled_again n x g))
        (subst (λ (ts : List HtmlToken). InMarkup r.next (ts ++ r.emits)) (sym k.1) (settles n (step x.next c) (marks x.next k.0))))
  ]

  rest_marked : (n : ℕ) (s : State) → is_marked s ≡ true → rest_within n s c ≡ None
  rest_marked zero s h = rw (restless s h) refl
  rest_marked (suc n) s h = elim (cases_Bool (step s c).again) [
    | inr g ↦ rw (restless s h, g) refl
    | inl g ↦ (let k = goes_on (step s c) (marks s h) g in rw (restless s h, g, rest_marked n (step s c).next k.0) refl)
  ]

  -- markup that begins

  opens : (s t : State) (ts : List HtmlToken) → is_at_rest s ≡ false → is_marked t ≡ true → ts ≡ [] → step s c ≡ T.again_in t → Turned s ts (Some within.Markup)
  opens s t ts f m e k =
      let a : (step s c).again ≡ true = ap (λ (y : Step). y.again) k in
      let n : (step s c).next ≡ t = ap (λ (y : Step). y.next) k in
      let more : InMarkup (settled 2 (step t c) c).next (settled 2 (step t c) c).emits = settles 2 (step t c) (marks t m) in
      let whole : whole_step s c ≡ settled 2 (step t c) c = ap (λ (y : Step). settled 3 y c) k in (
        rw (f, a, n, rest_marked 1 t m) refl,
        subst (λ (us : List HtmlToken). InMarkup (whole_step s c).next (us ++ (whole_step s c).emits)) (sym e)
            (subst (λ (y : Step). InMarkup y.next y.emits) (sym whole) more),
      )

  in_tag_open : (ts : List HtmlToken) → ts ≡ [] → Turned T.tag_open ts (going_on within.TagOpen c)
  in_tag_open ts e = elim (cases_Bool (c == 47)) [
    | inl y ↦ rw y (goes T.tag_open ts within.EndTagOpen (T.to T.end_tag_open) refl (slash y) refl (refl, ap (λ (us : List HtmlToken). us ++ []) e))
    | inr n ↦ elim (cases_Bool (is_ascii_alphabetic c)) [
      | inl y ↦ rw (n, y) (opens T.tag_open (T.tag_name (T.new_tag false)) ts refl refl e (rw (n, y, not_bang y, step) refl))
      | inr z ↦ elim (cases_Bool (c == 33)) [
        | inl y ↦ rw (n, z, y) (goes T.tag_open ts within.Markup (T.to (T.markup_declaration_open [])) refl (rw (y, step) refl) refl (inl (refl, ap (λ (us : List HtmlToken). us ++ []) e)))
        | inr x ↦ elim (cases_Bool (c == 63)) [
          | inl y ↦ rw (n, z, x, y) (opens T.tag_open (T.bogus_comment []) ts refl refl e (rw (n, z, x, y, step) refl))
          | inr u ↦ rw (n, z, x, u) (leaves T.tag_open ts (codes "<") refl (rw (n, z, x, u, step) refl))
        ]
      ]
    ]
  ]
    where
      slash : (c == 47) ≡ true → step T.tag_open c ≡ T.to T.end_tag_open
      slash y = subst (λ n. step T.tag_open n ≡ T.to T.end_tag_open) (sym (eqb-true c 47 y)) refl

      not_bang : is_ascii_alphabetic c ≡ true → (c == 33) ≡ false
      not_bang y = elim (cases_Bool (c == 33)) [
        | inl k ↦ absurd (true≢false (sym y ∙ ap is_ascii_alphabetic (eqb-true c 33 k)))
        | inr k ↦ k
      ]

  in_end_tag_open : (ts : List HtmlToken) → ts ≡ [] → Turned T.end_tag_open ts (going_on within.EndTagOpen c)
  in_end_tag_open ts e = elim (cases_Bool (is_ascii_alphabetic c)) [
    | inl y ↦ opens T.end_tag_open (T.tag_name (T.new_tag true)) ts refl refl e (rw (y, step) refl)
    | inr n ↦ elim (cases_Bool (c == 62)) [
      | inl y ↦ goes T.end_tag_open ts within.Markup (T.to data_state) refl (rw (n, y, step) refl) refl (inr (refl, ap (λ (us : List HtmlToken). are_characters (us ++ [])) e))
      | inr z ↦ opens T.end_tag_open (T.bogus_comment []) ts refl refl e (rw (n, z, step) refl)
    ]
  ]

  pub turned : (w : Within) (s : State) (ts : List HtmlToken) → is_return w ≡ false → is_markup w ≡ false → InPiece w s ts → Turned s ts (going_on w c)
  turned within.Text s ts r m e = (resting data_state, ap (λ (t : State). rest_within 2 t c) e, refl)
  turned within.Return s ts r m e = absurd (true≢false r)
  turned within.Reference s ts r m e = subst (λ (t : State). Turned t ts (going_on within.Reference c)) (sym e) (in_reference ts)
  turned within.Name s ts r m (buffer, e) = subst (λ (t : State). Turned t ts (going_on within.Name c)) (sym e) (in_name buffer ts)
  turned within.Number s ts r m e = subst (λ (t : State). Turned t ts (going_on within.Number c)) (sym e) (in_number ts)
  turned within.HexadecimalStart s ts r m (x, e) = subst (λ (t : State). Turned t ts (going_on within.HexadecimalStart c)) (sym e) (in_hexadecimal_start x ts)
  turned within.Hexadecimal s ts r m (code, e) = subst (λ (t : State). Turned t ts (going_on within.Hexadecimal c)) (sym e) (in_hexadecimal code ts)
  turned within.Decimal s ts r m (code, e) = subst (λ (t : State). Turned t ts (going_on within.Decimal c)) (sym e) (in_decimal code ts)
  turned within.TagOpen s ts r m (e, k) = subst (λ (t : State). Turned t ts (going_on within.TagOpen c)) (sym e) (in_tag_open ts k)
  turned within.EndTagOpen s ts r m (e, k) = subst (λ (t : State). Turned t ts (going_on within.EndTagOpen c)) (sym e) (in_end_tag_open ts k)
  turned within.Markup s ts r m e = absurd (true≢false m)

  pub marked : (s : State) (ts : List HtmlToken) → is_marked s ≡ true → ts ≡ [] → (rest_within 2 s c ≡ None) × InMarkup (whole_step s c).next (ts ++ (whole_step s c).emits)
  marked s ts h e = (
    rest_marked 2 s h,
    subst (λ (us : List HtmlToken). InMarkup (whole_step s c).next (us ++ (whole_step s c).emits)) (sym e) (settles 3 (step s c) (marks s h)),
  )

-- what the end of the page makes of such a state is no character

value_ends : (s : State) (bytes : List ℕ) → T.is_value s ≡ true → are_characters (T.flushed s bytes false).emits ≡ false
value_ends (T.double_quoted tag key value) bytes h = refl
value_ends (T.single_quoted tag key value) bytes h = refl
value_ends (T.unquoted tag key value) bytes h = refl
value_ends _ bytes h = absurd (true≢false (sym h))

pub marked_ends : (s : State) → is_marked s ≡ true → are_characters (at_end s) ≡ false
marked_ends (T.character_reference s) h = value_ends s (codes "&") h
marked_ends (T.named_character_reference s buffer) h = value_ends s (named_value (T.is_value s) buffer []) h
marked_ends (T.numeric_character_reference s) h = value_ends s (codes "&#") h
marked_ends (T.hexadecimal_start s x) h = value_ends s (codes "&#" ++ x ∷ []) h
marked_ends (T.decimal_start s) h = value_ends s (codes "&#") h
marked_ends (T.hexadecimal s code) h = value_ends s (number_value code) h
marked_ends (T.decimal s code) h = value_ends s (number_value code) h
marked_ends T.tag_open h = absurd (true≢false (sym h))
marked_ends T.end_tag_open h = absurd (true≢false (sym h))
marked_ends (T.raw_less_than_sign r) h = absurd (true≢false (sym h))
marked_ends (T.raw_end_tag_open r) h = absurd (true≢false (sym h))
marked_ends (T.raw_end_tag_name r buffer) h = absurd (true≢false (sym h))
marked_ends _ h = refl

-- what a text is in before a byte, and after it

pub record IsIn (w : Within) (r : Reader) (ts : List HtmlToken) : Type 0 where
  pub piece : InPiece w r.state ts
  pub returned : is_markup w ≡ false → r.after_return ≡ is_return w

-- nothing goes on to a carriage return

abbrev returns : Option Within → Bool
returns None = false
returns (Some w) = is_return w

neither : (v : Bool) (w u : Option Within) → returns w ≡ false → returns u ≡ false → returns (if v then w else u) ≡ false
neither true w u h k = h
neither false w u h k = k

no_return : (w : Within) (b : ℕ) → returns (going_on w b) ≡ false
no_return within.Text b = refl
no_return within.Return b = neither (b == 10) _ _ refl refl
no_return within.Reference b = neither (is_ascii_alphanumeric b) _ _ refl (neither (b == 35) _ _ refl refl)
no_return within.Name b = neither (is_ascii_alphanumeric b) _ _ refl (neither (b == 59) _ _ refl refl)
no_return within.Number b = neither (to_ascii_lowercase b == 120) _ _ refl (neither (is_ascii_digit b) _ _ refl refl)
no_return within.HexadecimalStart b = neither (is_ascii_hexdigit b) _ _ refl refl
no_return within.Hexadecimal b = neither (is_ascii_hexdigit b) _ _ refl (neither (b == 59) _ _ refl refl)
no_return within.Decimal b = neither (is_ascii_digit b) _ _ refl (neither (b == 59) _ _ refl refl)
no_return within.TagOpen b = neither (b == 47) _ _ refl (neither (is_ascii_alphabetic b || (b == 33) || (b == 63)) _ _ refl refl)
no_return within.EndTagOpen b = refl
no_return within.Markup b = refl

-- nor with one, but for markup

abbrev goes_in_text : Option Within → Bool
goes_in_text None = false
goes_in_text (Some w) = not (is_markup w)

none_with : (w : Within) → goes_in_text (going_on w 13) ≡ false
none_with within.Text = refl
none_with within.Return = refl
none_with within.Reference = refl
none_with within.Name = refl
none_with within.Number = refl
none_with within.HexadecimalStart = refl
none_with within.Hexadecimal = refl
none_with within.Decimal = refl
none_with within.TagOpen = refl
none_with within.EndTagOpen = refl
none_with within.Markup = refl

returned_after : (w v : Within) (b : ℕ) → going_on w b ≡ Some v → is_markup v ≡ false → (b == 13) ≡ is_return v
returned_after w v b e m = elim (cases_Bool (b == 13)) [
  | inl y ↦ (
      let here : going_on w 13 ≡ Some v = ap (going_on w) (sym (eqb-true b 13 y)) ∙ e in
      absurd (true≢false (sym (ap not m) ∙ sym (ap goes_in_text here) ∙ none_with w)))
  | inr n ↦ n ∙ sym (sym (ap returns e) ∙ no_return w b)
]

going_fed : (w : Within) (b : ℕ) → is_return w ≡ false → going_on w (feed b) ≡ going_on w b
going_fed w b r = elim (cases_Bool (b == 13)) [
  | inl y ↦ subst (λ n. going_on w (feed n) ≡ going_on w n) (sym (eqb-true b 13 y)) (fed w r)
  | inr n ↦ ap (going_on w) (feed_is b n)
]
  where
    fed : (w : Within) → is_return w ≡ false → going_on w 10 ≡ going_on w 13
    fed within.Text r = refl
    fed within.Return r = absurd (true≢false r)
    fed within.Reference r = refl
    fed within.Name r = refl
    fed within.Number r = refl
    fed within.HexadecimalStart r = refl
    fed within.Hexadecimal r = refl
    fed within.Decimal r = refl
    fed within.TagOpen r = refl
    fed within.EndTagOpen r = refl
    fed within.Markup r = refl

-- the machine is at rest before a byte where nothing goes on with it
abbrev pub Meets : Reader → List HtmlToken → ℕ → Option Within → Type 0
Meets r ts b None = (rest : Rest) × (rest_before r b ≡ Some rest) × (rest.state ≡ data_state)
Meets r ts b (Some w) = (rest_before r b ≡ None) × IsIn w (next r b) (ts ++ (read r b).emits)

pub meets : (w : Within) (r : Reader) (ts : List HtmlToken) (b : ℕ) → is_markup w ≡ false → IsIn w r ts → Meets r ts b (going_on w b)
meets w r ts b m h = elim (cases_Bool (is_return w)) [
  | inl y ↦ behind_return w y m h
  | inr n ↦ (
      let v : r.after_return ≡ false = h.returned m ∙ n in
      let none : (r.after_return && (b == 10)) ≡ false = ap (λ (x : Bool). x && (b == 10)) v in
      let t : Turned (feed b) r.state ts (going_on w b) = subst (Turned (feed b) r.state ts) (going_fed w b n) (turned (feed b) w r.state ts n m h.piece) in
      plain (going_on w b) refl none t)
]
  where
    plain : (o : Option Within) → going_on w b ≡ o → (r.after_return && (b == 10)) ≡ false → Turned (feed b) r.state ts o → Meets r ts b o
    plain None e none t = (t.0, rest_plain r.state r.after_return b none ∙ t.1, t.2)
    plain (Some u) e none t =
        let is : read r b ≡ whole_step r.state (feed b) = read_plain r.state r.after_return b none in (
          rest_plain r.state r.after_return b none ∙ t.0,
          record {
            piece = subst (λ (x : Step). InPiece u x.next (ts ++ x.emits)) (sym is) t.1;
            returned = λ k. returned_after w u b e k;
          },
        )

    behind_return : (w : Within) → is_return w ≡ true → is_markup w ≡ false → IsIn w r ts → Meets r ts b (going_on w b)
    behind_return within.Return y m h = elim (cases_Bool (b == 10)) [
      | inl k ↦ (
          let passed : (r.after_return && (b == 10)) ≡ true = ap₂ (λ (x z : Bool). x && z) (h.returned refl) k in
          let is : read r b ≡ T.to r.state = read_passed r.state r.after_return b passed in
          rw k (
            rest_passed r.state r.after_return b passed,
            record {
              piece = ap (λ (x : Step). x.next) is ∙ h.piece;
              returned = λ _. ap (λ n. n == 13) (eqb-true b 10 k);
            },
          ))
      | inr k ↦ (
          let none : (r.after_return && (b == 10)) ≡ false = ap₂ (λ (x z : Bool). x && z) (h.returned refl) k in
          rw k (resting data_state, rest_plain r.state r.after_return b none ∙ ap (λ (s : State). rest_within 2 s (feed b)) h.piece, refl))
    ]
    behind_return _ y m h = absurd (true≢false (sym y))

-- what begins with a byte
pub first_in : (b : ℕ) → IsIn (first b) (next (at data_state) b) (emitted (at data_state) (b ∷ []))
first_in b =
    let is : read (at data_state) b ≡ whole_step data_state (feed b) = read_plain data_state false b refl in
    let k = by_first b in
    record {
      piece = subst (λ (x : Step). InPiece (first b) x.next (x.emits ++ [])) (sym is) k.0;
      returned = λ _. k.1;
    }
  where
    FirstIn : ℕ → Type 0
    FirstIn n = InPiece (first n) (whole_step data_state (feed n)).next ((whole_step data_state (feed n)).emits ++ []) × ((n == 13) ≡ is_return (first n))

    other : (n : ℕ) → (n == 38) ≡ false → (n == 60) ≡ false → (n == 13) ≡ false → FirstIn n
    other n a l r =
        let one : step data_state n ≡ T.emitting (n ∷ []) data_state = rw (a, l, step) refl in
        let whole : whole_step data_state (feed n) ≡ T.emitting (n ∷ []) data_state = ap (whole_step data_state) (feed_is n r) ∙ settled_at_once 3 (step data_state n) n (ap (λ (x : Step). x.again) one) ∙ one in
        let w : first n ≡ within.Text = rw (a, l, r) refl in (
          subst (λ (v : Within). InPiece v (whole_step data_state (feed n)).next ((whole_step data_state (feed n)).emits ++ [])) (sym w) (ap (λ (x : Step). x.next) whole),
          r ∙ sym (ap is_return w),
        )

    by_first : (n : ℕ) → FirstIn n
    by_first n = elim (cases_Bool (n == 38)) [
      | inl y ↦ subst FirstIn (sym (eqb-true n 38 y)) (refl, refl)
      | inr a ↦ elim (cases_Bool (n == 60)) [
        | inl y ↦ subst FirstIn (sym (eqb-true n 60 y)) ((refl, refl), refl)
        | inr l ↦ elim (cases_Bool (n == 13)) [
          | inl y ↦ subst FirstIn (sym (eqb-true n 13 y)) (refl, refl)
          | inr r ↦ other n a l r
        ]
      ]
    ]

-- markup goes on, or ends

rested : (s : State) (c : ℕ) → is_at_rest s ≡ true → rest_within 2 s c ≡ Some (resting s)
rested s c h = rw h refl

pub some_is : (x y : Rest) → Some x ≡ Some y → x ≡ y
some_is x y e = cc

rest_ends : (s : State) → is_at_rest s ≡ true → at_end s ≡ []
rest_ends data_state h = refl
rest_ends (T.raw r) h = refl
rest_ends T.plaintext h = refl
rest_ends _ h = absurd (true≢false (sym h))

pub markup_on : (r : Reader) (ts : List HtmlToken) (b : ℕ) → InMarkup r.state ts → rest_before r b ≡ None → InMarkup (next r b).state (ts ++ (read r b).emits)
markup_on r ts b h e = elim (cases_Bool (r.after_return && (b == 10))) [
  | inl y ↦ subst (λ (x : Step). InMarkup x.next (ts ++ x.emits)) (sym (read_passed r.state r.after_return b y)) (subst (InMarkup r.state) (sym (append-nil ts)) h)
  | inr n ↦ elim h [
    | inl k ↦ subst (λ (x : Step). InMarkup x.next (ts ++ x.emits)) (sym (read_plain r.state r.after_return b n)) (marked (feed b) r.state ts k.0 k.1).1
    | inr k ↦ (
        let some : rest_before r b ≡ Some (resting r.state) = rest_plain r.state r.after_return b n ∙ rested r.state (feed b) k.0 in
        absurd (apart (resting r.state) (sym e ∙ some)))
  ]
]

pub markup_cut : (r : Reader) (ts : List HtmlToken) (b : ℕ) (rest : Rest) → InMarkup r.state ts → rest_before r b ≡ Some rest → are_characters (ts ++ rest.emits) ≡ false
markup_cut r ts b rest h e = elim (cases_Bool (r.after_return && (b == 10))) [
  | inl y ↦ absurd (apart rest (sym (rest_passed r.state r.after_return b y) ∙ e))
  | inr n ↦ elim h [
    | inl k ↦ absurd (apart rest (sym (rest_plain r.state r.after_return b n ∙ (marked (feed b) r.state ts k.0 k.1).0) ∙ e))
    | inr k ↦ (
        let some : rest_before r b ≡ Some (resting r.state) = rest_plain r.state r.after_return b n ∙ rested r.state (feed b) k.0 in
        let is : resting r.state ≡ rest = some_is (resting r.state) rest (sym some ∙ e) in
        subst (λ (x : Rest). are_characters (ts ++ x.emits) ≡ false) is (ap are_characters (append-nil ts) ∙ k.1))
  ]
]

pub markup_end : (s : State) (ts : List HtmlToken) → InMarkup s ts → are_characters (ts ++ at_end s) ≡ false
markup_end s ts h = elim h [
  | inl k ↦ subst (λ (us : List HtmlToken). are_characters (us ++ at_end s) ≡ false) (sym k.1) (marked_ends s k.0)
  | inr k ↦ ap (λ (us : List HtmlToken). are_characters (ts ++ us)) (rest_ends s k.0) ∙ ap are_characters (append-nil ts) ∙ k.1
]
