-- What a piece that is a text or a comment has read so far, by its stage.
use Rattle.std.proofs.Common.{◌≡◌, ◌⊎◌, ℕ, Bool, true, false, not, ◌||◌, ◌==◌, List, [], ◌∷◌, ◌++◌, map, Option, Some, None, codes, inl, inr, refl, ap, sym, subst, ◌∙◌, true≢false, append-nil, append_assoc, if◌then◌else◌}
use Rattle.std.specs.Prelude.{flat_map, take_while}
use Rattle.std.specs.Char.{is_ascii_alphabetic, to_ascii_lowercase}
use Rattle.std.specs.List.{list_all, starts_with}
use Rattle.std.proofs.lemmas.Bool.{and_from, and_parts, cases_Bool}
use Rattle.std.proofs.lemmas.Grind.{flat_map-append}
use Rattle.tl_html_spec.specs.HtmlTokenizer as T
use Rattle.tl_html_spec.specs.HtmlTokenizer.{HtmlToken, Character, CommentToken, State, char_of, whole_step}
use Rattle.tl_html_spec.specs.Reader.{Rest, rest_within}
use Rattle.tl_html_spec.specs.References.{begins_with}
use Rattle.tl_html_spec.proofs.Ahead.{apart}
use Rattle.tl_html_spec.proofs.Looked.{is_plain}
use Rattle.tl_html_tokens.specs.Characters.{without_nul}
use Rattle.tl_html_tokens.specs.Comments.{data_of, not_greater}
use Rattle.tl_html_tokens.specs.Modes.{state_of}
use Rattle.tl_html_tokens.specs.Tokens.{is_text}
use Rattle.tl_html_tokens.specs.declared.mode.Mode.{Mode}
use Rattle.tl_html_tokens.specs.declared.mode.Mode.TheVariants as mode
use Rattle.tl_html_tokens.specs.declared.stage.TokenKind.{TokenKind}
use Rattle.tl_html_tokens.specs.declared.stage.TokenKind.TheVariants as kind
use Rattle.tl_html_tokens.specs.declared.stage.Place.{Place}
use Rattle.tl_html_tokens.specs.declared.stage.Place.TheVariants as place
use Rattle.tl_html_tokens.specs.declared.stage.Stage.{Stage}
use Rattle.tl_html_tokens.specs.declared.stage.Stage.TheVariants as stage
use Rattle.tl_html_tokens.specs.declared.stage.Turn.{Turn}
use Rattle.tl_html_tokens.specs.declared.stage.Turn.TheVariants.{Goes, Ends}
use Rattle.tl_html_tokens.proofs.Endings.{IsDashed, IsOpen}
use Rattle.tl_html_tokens.proofs.Steps.{next_word}
use Rattle.tl_html_tokens.proofs.Turning.{Turned}

-- modes

-- whether references are read
abbrev pub has_references : Mode → Bool
has_references mode.Data = true
has_references mode.Title = true
has_references mode.Textarea = true
has_references mode.ContextText = true
has_references _ = false

-- the characters of a byte that is no reference
abbrev pub said : Mode → ℕ → List ℕ
said mode.Data b = b ∷ []
said _ b = char_of b

abbrev pub literal : Mode → List ℕ → List ℕ
literal m z = flat_map (said m) z

-- a byte that ends each reference and is a piece by itself or begins one
abbrev pub is_special : Mode → ℕ → Bool
is_special mode.Data b = b == 60
is_special _ b = (b == 60) || (b == 0)

abbrev pub is_ordinary : Mode → ℕ → Bool
is_ordinary m b = not (is_special m b)

-- how a text goes on after one of this mode
pub record IsClass (m n : Mode) : Type 0 where
  pub same : has_references m ≡ true → n ≡ m
  pub none : has_references m ≡ false → has_references n ≡ false

pub class_same : (m : Mode) → IsClass m m
class_same m = record { same = λ _. refl; none = λ h. h }

pub class_plain : (m n : Mode) → has_references m ≡ false → has_references n ≡ false → IsClass m n
class_plain m n h k = record { same = λ y. absurd (true≢false (sym y ∙ h)); none = λ _. k }

pub plain_mode : (m n : Mode) → IsClass m n → has_references n ≡ false → has_references m ≡ false
plain_mode m n c h = elim (cases_Bool (has_references m)) [
  | inl y ↦ absurd (true≢false (sym (ap has_references (c.same y) ∙ y) ∙ h))
  | inr k ↦ k
]

-- texts

-- a piece that says what its bytes say one by one, and begins with a special one
pub record IsSpecial (m : Mode) (z : List ℕ) (ts : List HtmlToken) : Type 0 where
  pub first : begins_with (is_special m) z ≡ true
  pub plain : list_all is_plain z ≡ true
  pub tokens : ts ≡ map Character (literal m z)

-- of a text that has references only the bytes are known, which are not special
pub record IsText (m : Mode) (z : List ℕ) (ts : List HtmlToken) : Type 0 where
  pub kept : has_references m ≡ false → ts ≡ map Character (literal m z)
  pub parts : has_references m ≡ true → (list_all (is_ordinary m) z ≡ true) ⊎ IsSpecial m z ts

pub special_text : (m : Mode) (z : List ℕ) (ts : List HtmlToken) → begins_with (is_special m) z ≡ true → list_all is_plain z ≡ true →
    ts ≡ map Character (literal m z) → IsText m z ts
special_text m z ts f p e = record { kept = λ _. e; parts = λ _. inr (record { first = f; plain = p; tokens = e }) }

pub ordinary_text : (m : Mode) (z : List ℕ) (ts : List HtmlToken) → has_references m ≡ true → list_all (is_ordinary m) z ≡ true → IsText m z ts
ordinary_text m z ts y h = record { kept = λ n. absurd (true≢false (sym y ∙ n)); parts = λ _. inl h }

pub less_special : (m : Mode) → is_special m 60 ≡ true
less_special mode.Data = refl
less_special _ = refl

pub no_special : (m : Mode) (b : ℕ) → (b == 60) ≡ false → (b == 0) ≡ false → is_special m b ≡ false
no_special mode.Data b h k = h
no_special _ b h k = rw (h, k) refl

pub said_plain : (m : Mode) (b : ℕ) → (b == 0) ≡ false → said m b ≡ b ∷ []
said_plain mode.Data b h = refl
said_plain _ b h = rw h refl

pub said_char : (m : Mode) (b : ℕ) → has_references m ≡ false → said m b ≡ char_of b
said_char mode.Data b h = absurd (true≢false h)
said_char _ b h = refl

pub literal_more : (m : Mode) (z : List ℕ) (b : ℕ) → literal m (z ++ b ∷ []) ≡ literal m z ++ said m b
literal_more m z b = flat_map-append (said m) z (b ∷ []) ∙ ap (λ x. literal m z ++ x) (append-nil (said m b))

-- letters stand for themselves
pub literal_letters : (m : Mode) (w : List ℕ) → list_all is_ascii_alphabetic w ≡ true → literal m w ≡ w
literal_letters m [] h = refl
literal_letters m (b ∷ w) h =
    let p = and_parts (is_ascii_alphabetic b) (list_all is_ascii_alphabetic w) h in
    ap (λ x. x ++ literal m w) (said_plain m b (apart is_ascii_alphabetic b 0 p.0 refl)) ∙ ap (λ x. b ∷ x) (literal_letters m w p.1)

pub plain_letters : (w : List ℕ) → list_all is_ascii_alphabetic w ≡ true → list_all is_plain w ≡ true
plain_letters [] h = refl
plain_letters (b ∷ w) h =
    let p = and_parts (is_ascii_alphabetic b) (list_all is_ascii_alphabetic w) h in
    and_from (is_plain b) (list_all is_plain w) (ap not (apart is_ascii_alphabetic b 38 p.0 refl)) (plain_letters w p.1)

-- `<`, and `</` with letters after it
pub less_text : (m : Mode) → IsText m (60 ∷ []) (map Character (60 ∷ []))
less_text m =
    special_text m (60 ∷ []) _ (less_special m) refl (ap (λ x. map Character (x ++ [])) (sym (said_plain m 60 refl)))

pub name_text : (m : Mode) (w : List ℕ) → list_all is_ascii_alphabetic w ≡ true → IsText m (60 ∷ 47 ∷ w) (map Character (60 ∷ 47 ∷ w))
name_text m w h =
    special_text m (60 ∷ 47 ∷ w) _ (less_special m) (plain_letters w h)
    (ap (map Character) (sym (ap (λ x. x ++ (said m 47 ++ literal m w)) (said_plain m 60 refl) ∙ ap (λ x. 60 ∷ (x ++ literal m w)) (said_plain m 47 refl)
    ∙ ap (λ x. 60 ∷ 47 ∷ x) (literal_letters m w h))))

-- a byte by itself
pub one_text : (m : Mode) (b : ℕ) → (b == 38) ≡ false → IsText m (b ∷ []) (map Character (said m b))
one_text m b h =
    let all : said m b ≡ literal m (b ∷ []) = sym (append-nil (said m b)) in
    let e = ap (map Character) all in
    record {
      kept = λ _. e;
      parts = λ y. elim (cases_Bool (is_special m b)) [
        | inl s ↦ inr (record { first = s; plain = rw h refl; tokens = e })
        | inr n ↦ inl (rw n refl)
      ];
    }

-- pieces

abbrev pub is_less : ℕ → Bool
is_less b = b == 60

abbrev pub BeginsLess : List ℕ → Type 0
BeginsLess z = begins_with is_less z ≡ true

pub begins_more : (z t : List ℕ) → BeginsLess z → BeginsLess (z ++ t)
begins_more [] t h = absurd (true≢false (sym h))
begins_more (b ∷ z) t h = h

-- how a comment begins
abbrev pub opener : List ℕ
opener = codes "<!--"

-- how a doctype begins, and what stands after it
abbrev pub BeginsDoctype : List ℕ → Type 0
BeginsDoctype z = (word : List ℕ) × (t : List ℕ) × (z ≡ 60 ∷ 33 ∷ (word ++ t)) × (map to_ascii_lowercase word ≡ codes "doctype")

pub doctype_less : (z : List ℕ) → BeginsDoctype z → BeginsLess z
doctype_less z h = subst BeginsLess (sym h.2) refl

pub doctype_more : (z t : List ℕ) → BeginsDoctype z → BeginsDoctype (z ++ t)
doctype_more z t (word, u, e, h) = (word, u ++ t, ap (λ x. x ++ t) e ∙ ap (λ x. 60 ∷ 33 ∷ x) (append_assoc word u t), h)

-- what was read after `<!` that may become a word: none of it is `>` or NUL
abbrev pub is_clean : ℕ → Bool
is_clean b = not ((b == 62) || (b == 0))

-- and it begins no comment, unless it is part of its two dashes
abbrev pub IsNoOpener : List ℕ → Type 0
IsNoOpener v = (v ≡ []) ⊎ (v ≡ 45 ∷ []) ⊎ ((t : List ℕ) → starts_with ◌==◌ (v ++ t) (codes "--") ≡ false)

module _ (m : Mode) where
  -- what these bytes say as a token of this kind
  abbrev pub Says : TokenKind → List ℕ → List HtmlToken → Type 0
  Says kind.Text z ts = IsText m z ts
  Says kind.Comment z ts = (ts ≡ CommentToken (data_of z) ∷ []) × BeginsLess z
  Says kind.Doctype z ts = BeginsDoctype z
  Says _ z ts = BeginsLess z

  -- and how reading goes on
  abbrev pub Passes : TokenKind → Mode → List ℕ → List HtmlToken → Type 0
  Passes k n z ts = Says k z ts × (is_text k ≡ true → IsClass m n)

  abbrev pub InPlace : Place → List ℕ → Type 0
  InPlace (place.Text n) z = (has_references m ≡ true) × (list_all (is_ordinary m) z ≡ true) × IsClass m n
  InPlace (place.Value q tag) z = BeginsLess z

  abbrev pub InScript : List ℕ → List HtmlToken → Type 0
  InScript z ts = (has_references m ≡ false) × (ts ≡ map Character (literal m z))

  -- the bytes of the piece, those of its word, the state, and what the piece has emitted
  abbrev pub Content : Stage → List ℕ → List ℕ → State → List HtmlToken → Type 0
  Content (stage.Whole k n) z w s ts = Passes k n z ts
  Content (stage.Reference p) z w s ts = InPlace p z
  Content (stage.NamedReference p) z w s ts = InPlace p z
  Content (stage.NumericReference p) z w s ts = InPlace p z
  Content (stage.HexadecimalStart p) z w s ts = InPlace p z
  Content (stage.DecimalStart p) z w s ts = InPlace p z
  Content (stage.Hexadecimal p) z w s ts = InPlace p z
  Content (stage.Decimal p) z w s ts = InPlace p z
  Content stage.TagOpen z w s ts = IsClass m mode.Data × (z ≡ 60 ∷ [])
  Content stage.EndTagOpen z w s ts = IsClass m mode.Data × (z ≡ 60 ∷ 47 ∷ [])
  Content (stage.RawLessThan n) z w s ts = IsClass m n × (z ≡ 60 ∷ [])
  Content (stage.RawEndTagOpen n) z w s ts = IsClass m n × (z ≡ 60 ∷ 47 ∷ [])
  Content (stage.RawEndTagName n) z w s ts = IsClass m n × (z ≡ 60 ∷ 47 ∷ w) × (list_all is_ascii_alphabetic w ≡ true)
  Content stage.EscapeStart z w s ts = InScript z ts
  Content stage.EscapeStartDash z w s ts = InScript z ts
  Content stage.DoubleEscapeStart z w s ts = InScript z ts
  Content stage.DoubleEscaped z w s ts = InScript z ts
  Content stage.DoubleEscapedDash z w s ts = InScript z ts
  Content stage.DoubleEscapedDashDash z w s ts = InScript z ts
  Content stage.DoubleEscapedLessThan z w s ts = InScript z ts
  Content stage.DoubleEscapeEnd z w s ts = InScript z ts
  Content stage.BogusComment z w s ts =
      (read : List ℕ) × (s ≡ T.bogus_comment read) × ((t : List ℕ) → data_of (z ++ t) ≡ read ++ without_nul (take_while not_greater t)) × BeginsLess z
  Content stage.Declaration z w s ts = (v : List ℕ) × (w ≡ 33 ∷ v) × (z ≡ 60 ∷ 33 ∷ v) × IsNoOpener v × (list_all is_clean v ≡ true)
  Content stage.CommentStart z w s ts = z ≡ opener
  Content stage.CommentStartDash z w s ts = z ≡ opener ++ 45 ∷ []
  Content stage.Comment z w s ts = (body : List ℕ) × (z ≡ opener ++ body) × (s ≡ T.comment (without_nul body)) × IsOpen body
  Content stage.CommentLessThan z w s ts = (body : List ℕ) × (z ≡ opener ++ body) × (s ≡ T.comment_less_than_sign (without_nul body)) × IsOpen body
  Content stage.CommentBang z w s ts = (body : List ℕ) × (z ≡ opener ++ body) × (s ≡ T.comment_less_than_sign_bang (without_nul body)) × IsOpen body
  Content stage.CommentBangDash z w s ts =
      (body : List ℕ) × (z ≡ opener ++ (body ++ 45 ∷ [])) × (s ≡ T.comment_less_than_sign_bang_dash (without_nul body)) × IsDashed body
  Content stage.CommentBangDashDash z w s ts =
      (body : List ℕ) × (z ≡ opener ++ (body ++ 45 ∷ 45 ∷ [])) × (s ≡ T.comment_less_than_sign_bang_dash_dash (without_nul body))
  Content stage.CommentEndDash z w s ts = (body : List ℕ) × (z ≡ opener ++ (body ++ 45 ∷ [])) × (s ≡ T.comment_end_dash (without_nul body)) × IsDashed body
  Content stage.CommentEnd z w s ts = (body : List ℕ) × (z ≡ opener ++ (body ++ 45 ∷ 45 ∷ [])) × (s ≡ T.comment_end (without_nul body))
  Content stage.CommentEndBang z w s ts = (body : List ℕ) × (z ≡ opener ++ (body ++ 45 ∷ 45 ∷ 33 ∷ [])) × (s ≡ T.comment_end_bang (without_nul body))
  Content stage.Doctype z w s ts = BeginsDoctype z
  Content _ z w s ts = BeginsLess z

  -- what a byte leaves of that
  abbrev pub Kept : ℕ → List ℕ → List ℕ → State → List HtmlToken → Turn → Type 0
  Kept b z w s ts (Goes c) = Content c (z ++ b ∷ []) (next_word c w b) (whole_step s b).next (ts ++ (whole_step s b).emits)
  Kept b z w s ts (Ends k n) = (es : List HtmlToken) → rest_within 2 s b ≡ Some (record { state = state_of n; emits = es }) → Passes k n z (ts ++ es)

  pub choose : (b : ℕ) (z w : List ℕ) (s : State) (ts : List HtmlToken) (v : Bool) (o p : Turn) → (v ≡ true → Kept b z w s ts o) → (v ≡ false → Kept b z w s ts p) →
      Kept b z w s ts (if v then o else p)
  choose b z w s ts true o p f g = f refl
  choose b z w s ts false o p f g = g refl

  abbrev rest_tokens : Option Rest → List HtmlToken
  rest_tokens None = []
  rest_tokens (Some r) = r.emits

  pub same_rest : (o : Option Rest) (s u : State) (es fs : List HtmlToken) → o ≡ Some (record { state = s; emits = es }) → o ≡ Some (record { state = u; emits = fs }) → es ≡ fs
  same_rest o s u es fs e h = sym (ap rest_tokens e) ∙ ap rest_tokens h

  -- the same by steps
  pub kept_by : (b : ℕ) (z w : List ℕ) (s : State) (ts : List HtmlToken) (o : Turn) →
      Turned b (λ c u us. Content c (z ++ b ∷ []) (next_word c w b) u us) (λ k n us. Passes k n z us) 2 ts s o → Kept b z w s ts o
  kept_by b z w s ts (Goes c) h = h
  kept_by b z w s ts (Ends k n) (fs, e, h) = λ es g.
      subst (λ us. Passes k n z (ts ++ us)) (same_rest (rest_within 2 s b) (state_of n) (state_of n) fs es e g) h
