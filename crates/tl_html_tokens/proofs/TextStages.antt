-- What a byte does in a text.
use Rattle.std.proofs.Common.{◌≡◌, ℕ, Bool, true, false, not, ◌&&◌, ◌||◌, ◌==◌, List, [], ◌∷◌, ◌++◌, map, Some, None, codes, inl, inr, refl, ap, ap₂, sym, subst, ◌∙◌, true≢false, append-nil, if◌then◌else◌}
use Rattle.std.specs.Char.{is_ascii_alphabetic, is_ascii_alphanumeric, is_ascii_digit, is_ascii_hexdigit, to_ascii_lowercase}
use Rattle.std.specs.List.{list_all}
use Rattle.std.proofs.lemmas.Bool.{cases_Bool, eqb-true}
use Rattle.std.specs.Prelude.{take_while}
use Rattle.std.proofs.lemmas.List.{map-append}
use Rattle.std.proofs.lemmas.List.Sums.{take_while-cons}
use Rattle.std.proofs.lemmas.List.Folds.{list_all-append}
use Rattle.tl_html_spec.specs.HtmlTokenizer as T
use Rattle.tl_html_spec.specs.HtmlTokenizer.{HtmlToken, Character, Raw, State, Step, char_of, ends_name, is_appropriate, is_white_space, settled, step, whole_step}
use Rattle.tl_html_spec.specs.Reader.{Rest, rest_within}
use Rattle.tl_html_spec.proofs.Ahead.{apart}
use Rattle.tl_html_spec.proofs.Resting.{neither_again, settled_at_once}
use Rattle.tl_html_tokens.specs.Characters.{without_nul}
use Rattle.tl_html_tokens.specs.Comments.{not_greater}
use Rattle.tl_html_tokens.specs.Inner.Machine as M
use Rattle.tl_html_tokens.specs.Modes.{state_of}
use Rattle.tl_html_tokens.specs.declared.mode.Mode.{Mode}
use Rattle.tl_html_tokens.specs.declared.mode.Mode.TheVariants as mode
use Rattle.tl_html_tokens.specs.declared.stage.TokenKind.TheVariants as kind
use Rattle.tl_html_tokens.specs.declared.stage.Place.TheVariants as place
use Rattle.tl_html_tokens.specs.declared.stage.Stage.TheVariants as stage
use Rattle.tl_html_tokens.specs.declared.stage.Turn.{Turn}
use Rattle.tl_html_tokens.specs.declared.stage.Turn.TheVariants.{Goes, Ends}
use Rattle.tl_html_tokens.proofs.Content.{Content, InPlace, InScript, IsClass, IsText, Kept, Passes, choose, class_plain, has_references, is_ordinary, is_special, less_text, literal, literal_more, name_text, no_special, ordinary_text, plain_mode, said, said_char, said_plain, same_rest}
use Rattle.tl_html_tokens.proofs.Steps.{letter_ends_no_name, raw_of}

module _ (m : Mode) (b : ℕ) where
  -- a byte that is read at once, and one that is read once more

  once : (s : State) (x : Step) → step s b ≡ x → x.again ≡ false → whole_step s b ≡ x
  once s x e h = ap (λ y. settled 3 y b) e ∙ settled_at_once 3 x b h

  twice : (s : State) (x y : Step) → step s b ≡ x → x.again ≡ true → step x.next b ≡ y → y.again ≡ false → whole_step s b ≡ record y { emits = x.emits ++ y.emits }
  twice s x y e h f k =
      let inner : settled 2 (step x.next b) b ≡ y = ap (λ z. settled 2 z b) f ∙ settled_at_once 2 y b k in
      ap (λ z. settled 3 z b) e ∙ rw h (ap (λ (z : Step). let r : Step = record z { emits = x.emits ++ z.emits } in r) inner)

  -- references: of their bytes none is special

  module _ (z w : List ℕ) (s : State) (ts : List HtmlToken) (n : Mode) (h : InPlace m (place.Text n) z) where
    ordinary : is_special m b ≡ false → list_all (is_ordinary m) (z ++ b ∷ []) ≡ true
    ordinary e = list_all-append (is_ordinary m) z (b ∷ []) ∙ ap₂ (λ (x y : Bool). x && (not y && true)) h.1 e

    place_on : is_special m b ≡ false → InPlace m (place.Text n) (z ++ b ∷ [])
    place_on e = (h.0, ordinary e, h.2)

    by_test : (test : ℕ → Bool) → test b ≡ true → test 60 ≡ false → test 0 ≡ false → is_special m b ≡ false
    by_test test y l k = no_special m b (apart test b 60 y l) (apart test b 0 y k)

    by_byte : (c : ℕ) → (b == c) ≡ true → (c == 60) ≡ false → (c == 0) ≡ false → is_special m b ≡ false
    by_byte c y l k = let e = eqb-true b c y in no_special m b (ap (λ d. d == 60) e ∙ l) (ap (λ d. d == 0) e ∙ k)

    abbrev K : Turn → Type 0
    K o = Kept m b z w s ts o

    pick : (v : Bool) (o p : Turn) → (v ≡ true → K o) → (v ≡ false → K p) → K (if v then o else p)
    pick v o p f g = choose m b z w s ts v o p f g

    leaves : K (Ends kind.Text n)
    leaves = λ es _. (ordinary_text m z (ts ++ es) h.0 h.1, λ _. h.2)

    resumes : is_special m b ≡ false → K (Goes (stage.Whole kind.Text n))
    resumes e = (ordinary_text m (z ++ b ∷ []) _ h.0 (ordinary e), λ _. h.2)

    named : K (M.named_reference (place.Text n) b)
    named = pick (is_ascii_alphanumeric b) _ _ (λ y. place_on (by_test is_ascii_alphanumeric y refl refl)) (λ _. pick (b == 59) _ _ (λ y. resumes (by_byte 59 y refl refl)) (λ _. leaves))

    refers : K (M.reference (place.Text n) b)
    refers = pick (is_ascii_alphanumeric b) _ _ (λ y. place_on (by_test is_ascii_alphanumeric y refl refl)) (λ _. pick (b == 35) _ _ (λ y. place_on (by_byte 35 y refl refl)) (λ _. leaves))

    ends : K (M.number_end (place.Text n) b)
    ends = pick (b == 59) _ _ (λ y. resumes (by_byte 59 y refl refl)) (λ _. leaves)

    decimal : K (M.decimal (place.Text n) b)
    decimal = pick (is_ascii_digit b) _ _ (λ y. place_on (by_test is_ascii_digit y refl refl)) (λ _. ends)

    hexadecimal : K (M.hexadecimal (place.Text n) b)
    hexadecimal = pick (is_ascii_hexdigit b) _ _ (λ y. place_on (by_test is_ascii_hexdigit y refl refl)) (λ _. ends)

    decimal_start : K (M.decimal_start (place.Text n) b)
    decimal_start = pick (is_ascii_digit b) _ _ (λ y. place_on (by_test is_ascii_digit y refl refl)) (λ _. leaves)

    hexadecimal_start : K (M.hexadecimal_start (place.Text n) b)
    hexadecimal_start = pick (is_ascii_hexdigit b) _ _ (λ y. place_on (by_test is_ascii_hexdigit y refl refl)) (λ _. leaves)

    numeric : K (M.numeric_reference (place.Text n) b)
    numeric = pick (to_ascii_lowercase b == 120) _ _ (λ y. place_on (by_test (λ c. to_ascii_lowercase c == 120) y refl refl)) (λ _. decimal_start)

    pub named_kept : K (M.turn (stage.NamedReference (place.Text n)) w b)
    named_kept = named

    pub refers_kept : K (M.turn (stage.Reference (place.Text n)) w b)
    refers_kept = refers

    pub numeric_kept : K (M.turn (stage.NumericReference (place.Text n)) w b)
    numeric_kept = numeric

    pub hexadecimal_start_kept : K (M.turn (stage.HexadecimalStart (place.Text n)) w b)
    hexadecimal_start_kept = hexadecimal_start

    pub decimal_start_kept : K (M.turn (stage.DecimalStart (place.Text n)) w b)
    decimal_start_kept = decimal_start

    pub hexadecimal_kept : K (M.turn (stage.Hexadecimal (place.Text n)) w b)
    hexadecimal_kept = hexadecimal

    pub decimal_kept : K (M.turn (stage.Decimal (place.Text n)) w b)
    decimal_kept = decimal

  -- `<` and `</`

  less_passes : (n : Mode) (es : List HtmlToken) → IsClass m n → es ≡ map Character (codes "<") → Passes m kind.Text n (60 ∷ []) es
  less_passes n es c e = (subst (IsText m (60 ∷ [])) (sym e) (less_text m), λ _. c)

  name_passes : (n : Mode) (v : List ℕ) (es : List HtmlToken) → IsClass m n → list_all is_ascii_alphabetic v ≡ true → es ≡ map Character (codes "</" ++ v) →
      Passes m kind.Text n (60 ∷ 47 ∷ v) es
  name_passes n v es c h e = (subst (IsText m (60 ∷ 47 ∷ v)) (sym e) (name_text m v h), λ _. c)

  pub bogus_more : (t : List ℕ) → (b == 62) ≡ false → without_nul (take_while not_greater (b ∷ t)) ≡ char_of b ++ without_nul (take_while not_greater t)
  bogus_more t g = ap without_nul (take_while-cons not_greater b t) ∙ rw g refl

  bogus_begun : (b == 63) ≡ true → Content m stage.BogusComment (60 ∷ b ∷ []) [] (whole_step T.tag_open b).next (whole_step T.tag_open b).emits
  bogus_begun y =
      subst (λ c. Content m stage.BogusComment (60 ∷ c ∷ []) [] (whole_step T.tag_open c).next (whole_step T.tag_open c).emits) (sym (eqb-true b 63 y))
      (63 ∷ [], refl, λ t. ap without_nul (take_while-cons not_greater 63 t), refl)

  pub tag_open_kept : IsClass m mode.Data → Kept m b (60 ∷ []) [] T.tag_open [] (M.tag_open b)
  tag_open_kept c =
      choose m b (60 ∷ []) [] T.tag_open [] (b == 33) _ _
      (λ y. ([], ap (λ d. d ∷ []) (eqb-true b 33 y), ap (λ d. 60 ∷ d ∷ []) (eqb-true b 33 y), inl refl, refl))
      (λ x. choose m b (60 ∷ []) [] T.tag_open [] (b == 47) _ _ (λ y. (c, ap (λ d. 60 ∷ d ∷ []) (eqb-true b 47 y)))
      (λ v. choose m b (60 ∷ []) [] T.tag_open [] (is_ascii_alphabetic b) _ _ (λ _. refl)
      (λ a. choose m b (60 ∷ []) [] T.tag_open [] (b == 63) _ _ bogus_begun
      (λ q. λ es e. less_passes mode.Data es c
      (same_rest m (rest_within 2 T.tag_open b) T.data_state T.data_state es (map Character (codes "<")) e (rw (x, v, a, q) refl))))))

  bogus_after : is_ascii_alphabetic b ≡ false → (b == 62) ≡ false →
      Content m stage.BogusComment (60 ∷ 47 ∷ b ∷ []) [] (whole_step T.end_tag_open b).next (whole_step T.end_tag_open b).emits
  bogus_after a g =
      let is : whole_step T.end_tag_open b ≡ T.to (T.bogus_comment (char_of b)) =
      twice T.end_tag_open (T.again_in (T.bogus_comment [])) (T.to (T.bogus_comment (char_of b))) (rw (a, g) refl) refl (rw g refl) refl in
      (char_of b, ap (λ (x : Step). x.next) is, λ t. bogus_more t g, refl)

  pub end_tag_open_kept : Kept m b (60 ∷ 47 ∷ []) [] T.end_tag_open [] (M.end_tag_open b)
  end_tag_open_kept =
      choose m b (60 ∷ 47 ∷ []) [] T.end_tag_open [] (is_ascii_alphabetic b) _ _ (λ _. refl)
      (λ a. choose m b (60 ∷ 47 ∷ []) [] T.end_tag_open [] (b == 62) _ _ (λ _. (refl, λ y. absurd (true≢false (sym y))))
      (λ g. bogus_after a g))

  -- texts with an end tag of their own

  no_nul : (test : ℕ → Bool) → test b ≡ true → test 0 ≡ false → char_of b ≡ b ∷ []
  no_nul test y l = let e = apart test b 0 y l in rw e refl

  script_more : (z : List ℕ) (ts es : List HtmlToken) → InScript m z ts → es ≡ map Character (char_of b) → InScript m (z ++ b ∷ []) (ts ++ es)
  script_more z ts es (n, h) e = (
    n,
    ap₂ (λ (x y : List HtmlToken). x ++ y) h (e ∙ ap (map Character) (sym (said_char m b n))) ∙ sym (map-append Character (literal m z) (said m b))
        ∙ ap (map Character) (sym (literal_more m z b)),
  )

  less_in_script : has_references m ≡ false → InScript m (60 ∷ []) (map Character (60 ∷ []))
  less_in_script h = (h, (less_text m).kept h)

  escape_begun : has_references m ≡ false → (b == 33) ≡ true →
      InScript m (60 ∷ b ∷ []) (whole_step (T.raw_less_than_sign T.script_data) b).emits
  escape_begun h y =
      subst (λ d. InScript m (60 ∷ d ∷ []) (whole_step (T.raw_less_than_sign T.script_data) d).emits) (sym (eqb-true b 33 y))
      (h, ap (map Character) (sym (ap₂ (λ (x u : List ℕ). x ++ (u ++ [])) (said_plain m 60 refl) (said_plain m 33 refl))))

  double_begun : has_references m ≡ false → (b == 47) ≡ false → is_ascii_alphabetic b ≡ true →
      InScript m (60 ∷ b ∷ []) (whole_step (T.raw_less_than_sign T.script_data_escaped) b).emits
  double_begun h k a =
      let e = letter_ends_no_name b [] a in
      let is = twice (T.raw_less_than_sign T.script_data_escaped) (T.emitting_again (codes "<") (T.script_data_double_escape_start []))
      (T.emitting (b ∷ []) (T.script_data_double_escape_start (to_ascii_lowercase b ∷ []))) (rw (k, a) refl) refl (rw (e, a) refl) refl in
      let all : (whole_step (T.raw_less_than_sign T.script_data_escaped) b).emits ≡ map Character (60 ∷ []) ++ map Character (b ∷ []) = ap (λ (x : Step). x.emits) is in
      subst (InScript m (60 ∷ b ∷ [])) (sym all)
      (script_more (60 ∷ []) (map Character (60 ∷ [])) (map Character (b ∷ [])) (less_in_script h) (ap (map Character) (sym (no_nul is_ascii_alphabetic a refl))))

  less_rest : (n : Mode) (es : List HtmlToken) (u : State) → rest_within 2 (T.raw_less_than_sign (raw_of n)) b ≡ Some (record { state = u; emits = es }) →
      rest_within 2 (T.raw_less_than_sign (raw_of n)) b ≡ Some (record { state = T.raw (raw_of n); emits = map Character (codes "<") }) → es ≡ map Character (codes "<")
  less_rest n es u e h = same_rest m (rest_within 2 (T.raw_less_than_sign (raw_of n)) b) u (T.raw (raw_of n)) es (map Character (codes "<")) e h

  after_less : (n : Mode) → IsClass m n → (b == 47) ≡ false → Kept m b (60 ∷ []) [] (T.raw_less_than_sign (raw_of n)) [] (M.after_less_than n b)
  after_less mode.Script c k =
      choose m b (60 ∷ []) [] (T.raw_less_than_sign T.script_data) [] (b == 33) _ _ (λ y. escape_begun (plain_mode m mode.Script c refl) y)
      (λ x. λ es e. less_passes mode.Script es c (less_rest mode.Script es (state_of mode.Script) e (rw (k, x) refl)))
  after_less mode.ScriptEscaped c k =
      choose m b (60 ∷ []) [] (T.raw_less_than_sign T.script_data_escaped) [] (is_ascii_alphabetic b) _ _ (λ a. double_begun (plain_mode m mode.ScriptEscaped c refl) k a)
      (λ a. λ es e. less_passes mode.ScriptEscaped es c (less_rest mode.ScriptEscaped es (state_of mode.ScriptEscaped) e (rw (k, a) refl)))
  after_less mode.Data c k = λ es e. less_passes mode.Data es c (less_rest mode.Data es (state_of mode.Data) e (rw k refl))
  after_less mode.Title c k = λ es e. less_passes mode.Title es c (less_rest mode.Title es (state_of mode.Title) e (rw k refl))
  after_less mode.Textarea c k = λ es e. less_passes mode.Textarea es c (less_rest mode.Textarea es (state_of mode.Textarea) e (rw k refl))
  after_less mode.ContextText c k = λ es e. less_passes mode.ContextText es c (less_rest mode.ContextText es (state_of mode.ContextText) e (rw k refl))
  after_less mode.Style c k = λ es e. less_passes mode.Style es c (less_rest mode.Style es (state_of mode.Style) e (rw k refl))
  after_less mode.Xmp c k = λ es e. less_passes mode.Xmp es c (less_rest mode.Xmp es (state_of mode.Xmp) e (rw k refl))
  after_less mode.Iframe c k = λ es e. less_passes mode.Iframe es c (less_rest mode.Iframe es (state_of mode.Iframe) e (rw k refl))
  after_less mode.Noembed c k = λ es e. less_passes mode.Noembed es c (less_rest mode.Noembed es (state_of mode.Noembed) e (rw k refl))
  after_less mode.Noframes c k = λ es e. less_passes mode.Noframes es c (less_rest mode.Noframes es (state_of mode.Noframes) e (rw k refl))
  after_less mode.Noscript c k = λ es e. less_passes mode.Noscript es c (less_rest mode.Noscript es (state_of mode.Noscript) e (rw k refl))
  after_less mode.ScriptEscapedDash c k = λ es e. less_passes mode.ScriptEscapedDash es c (less_rest mode.ScriptEscapedDash es (state_of mode.ScriptEscapedDash) e (rw k refl))
  after_less mode.ScriptEscapedDashDash c k = λ es e. less_passes mode.ScriptEscapedDashDash es c (less_rest mode.ScriptEscapedDashDash es (state_of mode.ScriptEscapedDashDash) e (rw k refl))
  after_less mode.Plaintext c k = λ es e. less_passes mode.Plaintext es c (less_rest mode.Plaintext es (state_of mode.Plaintext) e (rw k refl))

  pub raw_less_kept : (n : Mode) → IsClass m n → Kept m b (60 ∷ []) [] (T.raw_less_than_sign (raw_of n)) [] (M.raw_less_than n b)
  raw_less_kept n c =
      choose m b (60 ∷ []) [] (T.raw_less_than_sign (raw_of n)) [] (b == 47) _ _ (λ y. (c, ap (λ d. 60 ∷ d ∷ []) (eqb-true b 47 y))) (λ k. after_less n c k)

  pub raw_open_kept : (n : Mode) → IsClass m n → Kept m b (60 ∷ 47 ∷ []) [] (T.raw_end_tag_open (raw_of n)) [] (M.raw_end_tag_open n b)
  raw_open_kept n c =
      choose m b (60 ∷ 47 ∷ []) [] (T.raw_end_tag_open (raw_of n)) [] (is_ascii_alphabetic b) _ _ (λ a. (c, refl, rw a refl))
      (λ a. λ es e. name_passes n [] es c refl
      (same_rest m (rest_within 2 (T.raw_end_tag_open (raw_of n)) b) (state_of n) (T.raw (raw_of n)) es (map Character (codes "</")) e (rw a refl)))

  -- what was withheld of a name that is not the text's own
  pub name_emits : (r : Raw) (v : List ℕ) (rest : Rest) → rest_within 2 (T.raw_end_tag_name r v) b ≡ Some rest → rest.emits ≡ map Character (codes "</" ++ v)
  name_emits r v rest e = elim (cases_Bool (is_white_space b && is_appropriate r v)) [
    | inl y ↦ (let never : None ≡ Some rest = rw y at e in cc)
    | inr x ↦ elim (cases_Bool ((b == 47) && is_appropriate r v)) [
      | inl y ↦ (let never : None ≡ Some rest = rw (x, y) at e in cc)
      | inr k ↦ elim (cases_Bool ((b == 62) && is_appropriate r v)) [
        | inl y ↦ (let never : None ≡ Some rest = rw (x, k, y) at e in cc)
        | inr g ↦ elim (cases_Bool (is_ascii_alphabetic b)) [
          | inl y ↦ (let never : None ≡ Some rest = rw (x, k, g, y) at e in cc)
          | inr a ↦ (
              let is : Some (record { state = T.raw r; emits = map Character (codes "</" ++ v) ++ [] }) ≡ Some rest = rw (x, k, g, a) at e in
              let same : record { state = T.raw r; emits = map Character (codes "</" ++ v) ++ [] } ≡ rest = cc in
              sym (ap (λ (q : Rest). q.emits) same) ∙ append-nil (map Character (codes "</" ++ v)))
        ]
      ]
    ]
  ]

  letters_more : (w : List ℕ) → list_all is_ascii_alphabetic w ≡ true → is_ascii_alphabetic b ≡ true → list_all is_ascii_alphabetic (w ++ b ∷ []) ≡ true
  letters_more w h a = list_all-append is_ascii_alphabetic w (b ∷ []) ∙ ap₂ (λ (x y : Bool). x && (y && true)) h a

  pub raw_name_kept : (n : Mode) (w : List ℕ) → IsClass m n → list_all is_ascii_alphabetic w ≡ true →
      Kept m b (60 ∷ 47 ∷ w) w (T.raw_end_tag_name (raw_of n) w) [] (M.raw_end_tag_name n w b)
  raw_name_kept n w c h =
      let z : List ℕ = 60 ∷ 47 ∷ w in
      let s : State = T.raw_end_tag_name (raw_of n) w in
      choose m b z w s [] (is_white_space b && M.is_own n w) _ _ (λ _. refl)
      (λ _. choose m b z w s [] ((b == 47) && M.is_own n w) _ _ (λ _. refl)
      (λ _. choose m b z w s [] ((b == 62) && M.is_own n w) _ _ (λ _. (refl, λ y. absurd (true≢false (sym y))))
      (λ _. choose m b z w s [] (is_ascii_alphabetic b) _ _ (λ a. (c, refl, letters_more w h a))
      (λ _. λ es e. name_passes n w es c h (name_emits (raw_of n) w (record { state = state_of n; emits = es }) e)))))

  -- scripts: all that is read has been emitted

  abbrev Emits : State → Type 0
  Emits s = (whole_step s b).emits ≡ map Character (char_of b)

  of_byte : (c : ℕ) (es : List HtmlToken) → (b == c) ≡ true → es ≡ map Character (char_of c) → es ≡ map Character (char_of b)
  of_byte c es y e = e ∙ ap (λ d. map Character (char_of d)) (sym (eqb-true b c y))

  escaped_emits : Emits T.script_data_double_escaped
  escaped_emits = elim (cases_Bool (b == 45)) [
    | inl y ↦ rw y (of_byte 45 (map Character (codes "-")) y refl)
    | inr n ↦ elim (cases_Bool (b == 60)) [ inl y ↦ rw (n, y) (of_byte 60 (map Character (codes "<")) y refl) | inr k ↦ rw (n, k) refl ]
  ]

  escaped_once : (step T.script_data_double_escaped b).again ≡ false
  escaped_once = neither_again (b == 45) _ _ refl (neither_again (b == 60) _ _ refl refl)

  dash_emits : Emits T.script_data_double_escaped_dash
  dash_emits = elim (cases_Bool (b == 45)) [
    | inl y ↦ rw y (of_byte 45 (map Character (codes "-")) y refl)
    | inr n ↦ elim (cases_Bool (b == 60)) [ inl y ↦ rw (n, y) (of_byte 60 (map Character (codes "<")) y refl) | inr k ↦ rw (n, k) refl ]
  ]

  dash_dash_emits : Emits T.script_data_double_escaped_dash_dash
  dash_dash_emits = elim (cases_Bool (b == 45)) [
    | inl y ↦ rw y (of_byte 45 (map Character (codes "-")) y refl)
    | inr n ↦ elim (cases_Bool (b == 60)) [
      | inl y ↦ rw (n, y) (of_byte 60 (map Character (codes "<")) y refl)
      | inr k ↦ elim (cases_Bool (b == 62)) [ inl y ↦ rw (n, k, y) (of_byte 62 (map Character (codes ">")) y refl) | inr g ↦ rw (n, k, g) refl ]
    ]
  ]

  -- a byte that is read again there
  again_emits : (s : State) (x : Step) → step s b ≡ x → x ≡ T.again_in T.script_data_double_escaped → Emits s
  again_emits s x e h =
      let is = twice s (T.again_in T.script_data_double_escaped) (step T.script_data_double_escaped b) (e ∙ h) refl refl escaped_once in
      ap (λ (y : Step). y.emits) is ∙ sym (ap (λ (y : Step). y.emits) (once T.script_data_double_escaped _ refl escaped_once)) ∙ escaped_emits

  less_emits : Emits T.script_data_double_escaped_less_than_sign
  less_emits = elim (cases_Bool (b == 47)) [
    | inl y ↦ rw y (of_byte 47 (map Character (codes "/")) y refl)
    | inr x ↦ again_emits T.script_data_double_escaped_less_than_sign _ refl (rw x refl)
  ]

  end_emits : (v : List ℕ) → Emits (T.script_data_double_escape_end v)
  end_emits v = elim (cases_Bool (ends_name b)) [
    | inl y ↦ (let e = no_nul ends_name y refl in rw y (ap (map Character) (sym e)))
    | inr x ↦ elim (cases_Bool (is_ascii_alphabetic b)) [
      | inl y ↦ (let e = no_nul is_ascii_alphabetic y refl in rw (x, y) (ap (map Character) (sym e)))
      | inr a ↦ again_emits (T.script_data_double_escape_end v) _ refl (rw (x, a) refl)
    ]
  ]

  start_emits : (v : List ℕ) → (ends_name b || is_ascii_alphabetic b) ≡ true → Emits (T.script_data_double_escape_start v)
  start_emits v h = elim (cases_Bool (ends_name b)) [
    | inl y ↦ (let e = no_nul ends_name y refl in rw y (ap (map Character) (sym e)))
    | inr x ↦ (
        let y : is_ascii_alphabetic b ≡ true = rw x at h in
        let e = no_nul is_ascii_alphabetic y refl in rw (x, y) (ap (map Character) (sym e)))
  ]

  module _ (z w : List ℕ) (s : State) (ts : List HtmlToken) (h : InScript m z ts) where
    script_text : (u : List ℕ) (us : List HtmlToken) (n : Mode) → InScript m u us → has_references n ≡ false → Passes m kind.Text n u us
    script_text u us n (k, e) r = (record { kept = λ _. e; parts = λ y. absurd (true≢false (sym y ∙ k)) }, λ _. class_plain m n k r)

    on : Emits s → InScript m (z ++ b ∷ []) (ts ++ (whole_step s b).emits)
    on e = script_more z ts (whole_step s b).emits h e

    -- the text goes on in another mode
    whole : (n : Mode) → Emits s → has_references n ≡ false → Kept m b z w s ts (Goes (stage.Whole kind.Text n))
    whole n e r = script_text (z ++ b ∷ []) _ n (on e) r

    before : (n : Mode) (es : List HtmlToken) → es ≡ [] → has_references n ≡ false → Passes m kind.Text n z (ts ++ es)
    before n es e r = script_text z (ts ++ es) n (h.0, ap (λ us. ts ++ us) e ∙ append-nil ts ∙ h.1) r

    double_on : Emits s → Kept m b z w s ts (M.double_escaped b)
    double_on e = choose m b z w s ts (b == 45) _ _ (λ _. on e) (λ _. choose m b z w s ts (b == 60) _ _ (λ _. on e) (λ _. on e))

    dash_on : Emits s → Kept m b z w s ts (M.double_escaped_dash b)
    dash_on e = choose m b z w s ts (b == 45) _ _ (λ _. on e) (λ _. choose m b z w s ts (b == 60) _ _ (λ _. on e) (λ _. on e))

    dash_dash_on : Emits s → Kept m b z w s ts (M.double_escaped_dash_dash b)
    dash_dash_on e =
        choose m b z w s ts (b == 45) _ _ (λ _. on e)
        (λ _. choose m b z w s ts (b == 60) _ _ (λ _. on e) (λ _. choose m b z w s ts (b == 62) _ _ (λ _. whole mode.Script e refl) (λ _. on e)))

    less_on : Emits s → Kept m b z w s ts (M.double_escaped_less_than b)
    less_on e = choose m b z w s ts (b == 47) _ _ (λ _. on e) (λ _. double_on e)

    end_on : (v : List ℕ) → Emits s → Kept m b z w s ts (M.double_escape_end v b)
    end_on v e =
        choose m b z w s ts (ends_name b) _ _ (λ _. choose m b z w s ts (M.is_script v) _ _ (λ _. whole mode.ScriptEscaped e refl) (λ _. on e))
        (λ _. choose m b z w s ts (is_ascii_alphabetic b) _ _ (λ _. on e) (λ _. double_on e))

  pub escape_start_kept : (z w : List ℕ) (ts : List HtmlToken) → InScript m z ts → Kept m b z w T.script_data_escape_start ts (M.escape_start b)
  escape_start_kept z w ts h =
      let s : State = T.script_data_escape_start in
      choose m b z w s ts (b == 45) _ _ (λ y. on z w s ts h (rw y (of_byte 45 (map Character (codes "-")) y refl)))
      (λ n. λ es e. before z w s ts h mode.Script es (same_rest m (rest_within 2 s b) (state_of mode.Script) (T.raw T.script_data) es [] e (rw n refl)) refl)

  pub escape_start_dash_kept : (z w : List ℕ) (ts : List HtmlToken) → InScript m z ts → Kept m b z w T.script_data_escape_start_dash ts (M.escape_start_dash b)
  escape_start_dash_kept z w ts h =
      let s : State = T.script_data_escape_start_dash in
      choose m b z w s ts (b == 45) _ _ (λ y. whole z w s ts h mode.ScriptEscapedDashDash (rw y (of_byte 45 (map Character (codes "-")) y refl)) refl)
      (λ n. λ es e. before z w s ts h mode.Script es (same_rest m (rest_within 2 s b) (state_of mode.Script) (T.raw T.script_data) es [] e (rw n refl)) refl)

  pub double_start_kept : (z w : List ℕ) (ts : List HtmlToken) → InScript m z ts →
      Kept m b z w (T.script_data_double_escape_start (map to_ascii_lowercase w)) ts (M.double_escape_start w b)
  double_start_kept z w ts h =
      let s : State = T.script_data_double_escape_start (map to_ascii_lowercase w) in
      choose m b z w s ts (ends_name b) _ _
      (λ y. let e = start_emits (map to_ascii_lowercase w) (rw y refl) in
      choose m b z w s ts (M.is_script w) _ _ (λ _. on z w s ts h e) (λ _. whole z w s ts h mode.ScriptEscaped e refl))
      (λ n. choose m b z w s ts (is_ascii_alphabetic b) _ _ (λ a. on z w s ts h (start_emits (map to_ascii_lowercase w) (rw (n, a) refl)))
      (λ a. λ es e. before z w s ts h mode.ScriptEscaped es (same_rest m (rest_within 2 s b) (state_of mode.ScriptEscaped) (T.raw T.script_data_escaped) es [] e (rw (n, a) refl)) refl))

  pub double_kept : (z w : List ℕ) (ts : List HtmlToken) → InScript m z ts → Kept m b z w T.script_data_double_escaped ts (M.double_escaped b)
  double_kept z w ts h = double_on z w T.script_data_double_escaped ts h escaped_emits

  pub dash_kept : (z w : List ℕ) (ts : List HtmlToken) → InScript m z ts → Kept m b z w T.script_data_double_escaped_dash ts (M.double_escaped_dash b)
  dash_kept z w ts h = dash_on z w T.script_data_double_escaped_dash ts h dash_emits

  pub dash_dash_kept : (z w : List ℕ) (ts : List HtmlToken) → InScript m z ts → Kept m b z w T.script_data_double_escaped_dash_dash ts (M.double_escaped_dash_dash b)
  dash_dash_kept z w ts h = dash_dash_on z w T.script_data_double_escaped_dash_dash ts h dash_dash_emits

  pub double_less_kept : (z w : List ℕ) (ts : List HtmlToken) → InScript m z ts → Kept m b z w T.script_data_double_escaped_less_than_sign ts (M.double_escaped_less_than b)
  double_less_kept z w ts h = less_on z w T.script_data_double_escaped_less_than_sign ts h less_emits

  pub double_end_kept : (z w v : List ℕ) (ts : List HtmlToken) → InScript m z ts →
      Kept m b z w (T.script_data_double_escape_end (map to_ascii_lowercase v)) ts (M.double_escape_end v b)
  double_end_kept z w v ts h = end_on z w (T.script_data_double_escape_end (map to_ascii_lowercase v)) ts h v (end_emits (map to_ascii_lowercase v))
