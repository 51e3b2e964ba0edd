-- What stands between the attributes of a tag, and what follows one, where others go.
use Rattle.std.proofs.Common.{◌≡◌, ℕ, Bool, true, false, not, ◌||◌, ◌&&◌, ◌==◌, List, [], ◌∷◌, ◌++◌, refl, ap, ap₂, sym, subst, ◌∙◌, inl, inr, append_assoc, append-nil, if◌then◌else◌, true≢false}
use Rattle.std.specs.List.{list_all}
use Rattle.std.specs.Char.{to_ascii_lowercase}
use Rattle.std.proofs.lemmas.Bool.{and_parts, cases_Bool, eqb-true, not-true, or_cases}
use Rattle.tl_html_spec.specs.HtmlTokenizer.{HtmlAttribute, char_of, is_white_space}
use Rattle.tl_html_spec.specs.Reader.{feed}
use Rattle.tl_html_spec.specs.References.{goes_on, named_value, resolved}
use Rattle.tl_html_spec.proofs.Ahead.{is_name_byte, named-same}
use Rattle.tl_html_spec.proofs.Looked.{letters-alike}
use Rattle.tl_html_parts.specs.Bytes.{is_space}
use Rattle.tl_patch_spec.proofs.Inside.{Inner, Inside, Outcome, adding_to, after_key, after_slash, after_value, before_key, before_value, byte_inner, continued, decimal_begin, decimal_number, ended, ends, hexadecimal_begin, hexadecimal_number, inner_text, key_of, named_reference, no_quotes, numeric_reference, reference, stays, still, value_of}
use Rattle.tl_patch.specs.Inner.Cuts.{free_after, is_blank, is_free, opens, over}
use Rattle.tl_patch.proofs.Stages.{In, IsBetween, IsPlain, bare, bare_greater, bare_space, bare_value, between_key, between_slash, between_space, key_space, after_other, after_space, said, settle, white_cases}

-- texts after texts

pub adding_none : (o : Outcome) → adding_to [] o ≡ o
adding_none (still i v more) = refl
adding_none (ended closes more v rest) = refl

adding_both : (xs ys : List HtmlAttribute) (o : Outcome) → adding_to xs (adding_to ys o) ≡ adding_to (xs ++ ys) o
adding_both xs ys (still i v more) = ap (still i v) (sym (append_assoc xs ys more))
adding_both xs ys (ended closes more v rest) = ap (λ zs. ended closes zs v rest) (sym (append_assoc xs ys more))

abbrev went : Inner → Bool → List ℕ → Outcome
went x v text = continued x (λ j. inner_text j v text) v text

record Still (add : List HtmlAttribute) (o : Outcome) (j : Inside) (u : Bool) (xs : List HtmlAttribute) : Type 0 where
  later : List HtmlAttribute
  is : o ≡ still j u later
  all : xs ≡ add ++ later

still_of : (add : List HtmlAttribute) (o : Outcome) (j : Inside) (u : Bool) (xs : List HtmlAttribute) → adding_to add o ≡ still j u xs → Still add o j u xs
still_of add (ended closes more v rest) j u xs e = cc
still_of add (still i v more) j u xs e = record { later = more; is = same i v more e; all = cc }
  where
    same : (i : Inside) (v : Bool) (more : List HtmlAttribute) → still i v (add ++ more) ≡ still j u xs → still i v more ≡ still j u more
    same i v more e = cc

pub text_append : (x y : List ℕ) (i j : Inside) (v u : Bool) (xs : List HtmlAttribute) → inner_text i v x ≡ still j u xs → inner_text i v (x ++ y) ≡ adding_to xs (inner_text j u y)
text_append [] y i j v u xs e =
    let a : i ≡ j = cc in
    let b : v ≡ u = cc in
    let c : xs ≡ [] = cc in
    ap₂ (λ k w. inner_text k w y) a b ∙ sym (ap (λ zs. adding_to zs (inner_text j u y)) c ∙ adding_none (inner_text j u y))
text_append (b ∷ x) y i j v u xs e = by_inner (λ k zs f. text_append x y k j (b == 13) u zs f) (byte_inner (v && (b == 10)) i b) e
  where
    by_inner : ((k : Inside) (zs : List HtmlAttribute) → inner_text k (b == 13) x ≡ still j u zs → inner_text k (b == 13) (x ++ y) ≡ adding_to zs (inner_text j u y)) →
        (z : Inner) → went z (b == 13) x ≡ still j u xs → went z (b == 13) (x ++ y) ≡ adding_to xs (inner_text j u y)
    by_inner f (stays again k more) e =
        let s = still_of more (inner_text k (b == 13) x) j u xs e in
        ap (adding_to more) (f k s.later s.is)
        ∙ adding_both more s.later (inner_text j u y)
        ∙ ap (λ zs. adding_to zs (inner_text j u y)) (sym s.all)
    by_inner f (ends closes more) e = absurd (never closes more e)
      where
        never : (closes : Bool) (more : List HtmlAttribute) → ended closes more (b == 13) x ≡ still j u xs → ⊥
        never closes more e = cc

pub text_more : (x : List ℕ) (b : ℕ) (i j k : Inside) (v u a : Bool) (xs add : List HtmlAttribute) → inner_text i v x ≡ still j u xs → byte_inner (u && (b == 10)) j b ≡ stays a k add →
    inner_text i v (x ++ b ∷ []) ≡ still k (b == 13) (xs ++ add)
text_more x b i j k v u a xs add e f =
    text_append x (b ∷ []) i j v u xs e
    ∙ ap (λ z. adding_to xs (went z (b == 13) [])) f
    ∙ ap (λ zs. still k (b == 13) (xs ++ zs)) (append-nil add)

-- a byte that is no white space is read as it is

pub record Bare (b : ℕ) : Type 0 where
  pub no_return : (b == 13) ≡ false
  pub fed : feed b ≡ b
  pub white : is_white_space b ≡ false

pub bare_byte : (b : ℕ) → is_space b ≡ false → Bare b
bare_byte b e = elim (cases_Bool (b == 13)) [
  | inl y ↦ absurd (true≢false (ap is_space (sym (eqb-true b 13 y)) ∙ e))
  | inr n ↦ (
      let same : feed b ≡ b = ap (λ (v : Bool). if v then 10 else b) n in
      record { no_return = n; fed = same; white = ap is_white_space (sym same) ∙ e })
]

pub plain : (b : ℕ) → is_space b ≡ false → (b == 47) ≡ false → (b == 62) ≡ false → IsPlain b
plain b e s g = record { white = (bare_byte b e).white; slash = s; greater = g }

-- between attributes a byte other than `>` is read the same

pub same_byte : (i : Inside) → IsBetween i → (b : ℕ) → (b == 62) ≡ false → settle i (feed b) ≡ settle after_value (feed b)
same_byte i h b g = elim (cases_Bool (is_space b)) [
  | inl y ↦ between_space i h (feed b) y ∙ sym (between_space after_value tt (feed b) y)
  | inr n ↦ elim (cases_Bool (b == 47)) [
    | inl y ↦ subst (λ c. settle i (feed c) ≡ settle after_value (feed c)) (sym (eqb-true b 47 y)) (between_slash i h)
    | inr m ↦ (
        let p : IsPlain b = plain b n m g in
        ap (settle i) (bare_byte b n).fed ∙ between_key i h b p ∙ sym (ap (settle after_value) (bare_byte b n).fed ∙ between_key after_value tt b p))
  ]
]

before_same : (b : ℕ) → settle before_key (feed b) ≡ settle after_value (feed b)
before_same b = elim (cases_Bool (b == 62)) [
  | inl y ↦ subst (λ c. settle before_key (feed c) ≡ settle after_value (feed c)) (sym (eqb-true b 62 y)) refl
  | inr n ↦ same_byte before_key tt b n
]

pub same_after : (i : Inside) → IsBetween i → (b : ℕ) (text : List ℕ) → (b == 62) ≡ false → inner_text i false (b ∷ text) ≡ inner_text after_value false (b ∷ text)
same_after i h b text g = ap (λ x. went x (b == 13) text) (same_byte i h b g)

pub before_after : (v : Bool) (b : ℕ) (text : List ℕ) → inner_text before_key v (b ∷ text) ≡ inner_text after_value false (b ∷ text)
before_after v b text = elim (cases_Bool (v && (b == 10))) [
  | inl y ↦ (
      let ten : b ≡ 10 = eqb-true b 10 (and_parts v (b == 10) y).1 in
      ap (λ c. went (byte_inner c before_key b) (b == 13) text) y
      ∙ subst (λ c. went (byte_inner true before_key c) (c == 13) text ≡ inner_text after_value false (c ∷ text)) (sym ten) refl)
  | inr n ↦ ap (λ c. went (byte_inner c before_key b) (b == 13) text) n ∙ ap (λ x. went x (b == 13) text) (before_same b)
]

-- a gap is passed over

abbrev pub IsOther : List ℕ → Type 0
IsOther [] = ⊥
IsOther (b ∷ text) = (b == 62) ≡ false

other_same : (i : Inside) → IsBetween i → (text : List ℕ) → IsOther text → inner_text i false text ≡ inner_text after_value false text
other_same i h [] o = absurd o
other_same i h (b ∷ text) o = same_after i h b text o

other_before : (v : Bool) (text : List ℕ) → IsOther text → inner_text before_key v text ≡ inner_text after_value false text
other_before v [] o = absurd o
other_before v (b ∷ text) o = before_after v b text

blank_parts : (b : ℕ) (gap : List ℕ) → list_all is_blank (b ∷ gap) ≡ true → (is_blank b ≡ true) × (list_all is_blank gap ≡ true)
blank_parts b gap h = and_parts (is_blank b) (list_all is_blank gap) h

before_gap : (gap text : List ℕ) (v : Bool) → IsOther text → inner_text after_value false (gap ++ text) ≡ inner_text after_value false text → inner_text before_key v (gap ++ text) ≡ inner_text after_value false text
before_gap [] text v o f = other_before v text o
before_gap (b ∷ gap) text v o f = before_after v b (gap ++ text) ∙ f

gap_between : (gap text : List ℕ) (i : Inside) → IsBetween i → list_all is_blank gap ≡ true → IsOther text → inner_text i false (gap ++ text) ≡ inner_text after_value false text
gap_between [] text i h g o = other_same i h text o
gap_between (b ∷ gap) text i h g o =
    let p = blank_parts b gap g in
    elim (cases_Bool (is_space b)) [
      | inl y ↦ ap (λ x. went x (b == 13) (gap ++ text)) (between_space i h (feed b) y) ∙ adding_none (inner_text before_key (b == 13) (gap ++ text))
          ∙ before_gap gap text (b == 13) o (gap_between gap text after_value tt p.1 o)
      | inr n ↦ (
          let slash : (b == 47) ≡ true = sym (ap (λ (c : Bool). c || (b == 47)) n) ∙ p.0 in
          subst (λ c. inner_text i false (c ∷ (gap ++ text)) ≡ inner_text after_value false text) (sym (eqb-true b 47 slash))
          (ap (λ x. went x false (gap ++ text)) (between_slash i h) ∙ adding_none (inner_text after_slash false (gap ++ text)) ∙ gap_between gap text after_slash tt p.1 o))
    ]

pub gap_read : (gap text : List ℕ) → list_all is_blank gap ≡ true → IsOther text → inner_text after_value false (gap ++ text) ≡ inner_text after_value false text
gap_read gap text g o = gap_between gap text after_value tt g o

-- a key that ends, and has no value

after_read : (k : List ℕ) (text : List ℕ) (v closes w : Bool) (xs : List HtmlAttribute) → free_after text ≡ true → inner_text before_key v text ≡ ended closes xs w [] →
    inner_text (after_key k) v text ≡ ended closes ((k, []) ∷ xs) w []
after_read k [] v closes w xs f e = absurd (true≢false (sym f))
after_read k (b ∷ text) v closes w xs f e = elim (cases_Bool (v && (b == 10))) [
  | inl y ↦ (
      let ten : b ≡ 10 = eqb-true b 10 (and_parts v (b == 10) y).1 in
      let g : free_after text ≡ true = sym (ap (λ c. free_after (c ∷ text)) ten) ∙ f in
      let was : inner_text before_key (b == 13) text ≡ ended closes xs w [] =
      sym (ap (λ c. went (byte_inner c before_key b) (b == 13) text) y ∙ adding_none (inner_text before_key (b == 13) text)) ∙ e in
      ap (λ c. went (byte_inner c (after_key k) b) (b == 13) text) y ∙ adding_none (inner_text (after_key k) (b == 13) text) ∙ after_read k text (b == 13) closes w xs g was)
  | inr n ↦ (
      let was : went (settle before_key (feed b)) (b == 13) text ≡ ended closes xs w [] = sym (ap (λ c. went (byte_inner c before_key b) (b == 13) text) n) ∙ e in
      ap (λ c. went (byte_inner c (after_key k) b) (b == 13) text) n ∙ (
      elim (cases_Bool (is_space b)) [
        | inl y ↦ (
            let g : free_after text ≡ true = sym (ap (λ (c : Bool). if c then free_after text else not (b == 61)) y) ∙ f in
            let still_white : inner_text before_key (b == 13) text ≡ ended closes xs w [] =
            sym (ap (λ x. went x (b == 13) text) (between_space before_key tt (feed b) y) ∙ adding_none (inner_text before_key (b == 13) text)) ∙ was in
            ap (λ x. went x (b == 13) text) (after_space k (feed b) y) ∙ adding_none (inner_text (after_key k) (b == 13) text) ∙ after_read k text (b == 13) closes w xs g still_white)
        | inr m ↦ (
            let q : (b == 61) ≡ false = not-true (b == 61) (sym (ap (λ (c : Bool). if c then free_after text else not (b == 61)) m) ∙ f) in
            by_byte q m was)
      ]))
]
  where
    by_byte : (b == 61) ≡ false → is_space b ≡ false → went (settle before_key (feed b)) (b == 13) text ≡ ended closes xs w [] → went (settle (after_key k) (feed b)) (b == 13) text ≡ ended closes ((k, []) ∷ xs) w []
    by_byte q m was = elim (cases_Bool (b == 47)) [
      | inl y ↦ subst (λ c. went (settle before_key (feed c)) (c == 13) text ≡ ended closes xs w [] → went (settle (after_key k) (feed c)) (c == 13) text ≡ ended closes ((k, []) ∷ xs) w []) (sym (eqb-true b 47 y))
          (λ h. ap (adding_to ((k, []) ∷ [])) (sym (adding_none (inner_text after_slash false text)) ∙ h)) was
      | inr s ↦ elim (cases_Bool (b == 62)) [
        | inl y ↦ subst (λ c. went (settle before_key (feed c)) (c == 13) text ≡ ended closes xs w [] → went (settle (after_key k) (feed c)) (c == 13) text ≡ ended closes ((k, []) ∷ xs) w []) (sym (eqb-true b 62 y))
            (λ h. ap (adding_to ((k, []) ∷ [])) h) was
        | inr g ↦ (
            let p : IsPlain b = plain b m s g in
            let j : Inside = key_of (char_of (to_ascii_lowercase b)) in
            let there : inner_text j (b == 13) text ≡ ended closes xs w [] =
            sym (ap (λ x. went x (b == 13) text) (ap (settle before_key) (bare_byte b m).fed ∙ between_key before_key tt b p) ∙ adding_none (inner_text j (b == 13) text)) ∙ was in
            ap (λ x. went x (b == 13) text) (ap (settle (after_key k)) (bare_byte b m).fed ∙ after_other k b p q) ∙ ap (adding_to ((k, []) ∷ [])) there)
      ]
    ]

pub key_alone : (k : List ℕ) (text : List ℕ) (closes w : Bool) (xs : List HtmlAttribute) → is_free text ≡ true → inner_text after_value false text ≡ ended closes xs w [] →
    inner_text (key_of k) false text ≡ ended closes ((k, []) ∷ xs) w []
key_alone k [] closes w xs f e = absurd (true≢false (sym f))
key_alone k (b ∷ text) closes w xs f e = elim (cases_Bool (is_space b)) [
  | inl y ↦ (
      let g : free_after text ≡ true = sym (ap (λ (c : Bool). if c then free_after text else (b == 47) || (b == 62)) y) ∙ f in
      let was : inner_text before_key (b == 13) text ≡ ended closes xs w [] =
      sym (ap (λ x. went x (b == 13) text) (between_space after_value tt (feed b) y) ∙ adding_none (inner_text before_key (b == 13) text)) ∙ e in
      ap (λ x. went x (b == 13) text) (key_space k (feed b) y) ∙ adding_none (inner_text (after_key k) (b == 13) text) ∙ after_read k text (b == 13) closes w xs g was)
  | inr n ↦ (
      let h : ((b == 47) || (b == 62)) ≡ true = sym (ap (λ (c : Bool). if c then free_after text else (b == 47) || (b == 62)) n) ∙ f in
      elim (or_cases (b == 47) (b == 62) h) [
        | inl y ↦ subst (λ c. inner_text after_value false (c ∷ text) ≡ ended closes xs w [] → inner_text (key_of k) false (c ∷ text) ≡ ended closes ((k, []) ∷ xs) w []) (sym (eqb-true b 47 y))
            (λ e. ap (adding_to ((k, []) ∷ [])) (sym (adding_none (inner_text after_slash false text)) ∙ e)) e
        | inr y ↦ subst (λ c. inner_text after_value false (c ∷ text) ≡ ended closes xs w [] → inner_text (key_of k) false (c ∷ text) ≡ ended closes ((k, []) ∷ xs) w []) (sym (eqb-true b 62 y))
            (λ e. ap (adding_to ((k, []) ∷ [])) e) e
      ])
]

-- a value without quotes says the same before white space and before the end

abbrev pub ends_bare : ℕ → Type 0
ends_bare c = (is_white_space c || (c == 62)) ≡ true

bare_cases : (P : ℕ → Type 0) → P 9 → P 10 → P 12 → P 32 → P 62 → (c : ℕ) → ends_bare c → P c
bare_cases P p q r s t c h = elim (cases_Bool (c == 62)) [
  | inl y ↦ subst P (sym (eqb-true c 62 y)) t
  | inr n ↦ elim (cases_Bool (c == 9)) [
    | inl y ↦ subst P (sym (eqb-true c 9 y)) p
    | inr a ↦ elim (cases_Bool (c == 10)) [
      | inl y ↦ subst P (sym (eqb-true c 10 y)) q
      | inr b ↦ elim (cases_Bool (c == 12)) [
        | inl y ↦ subst P (sym (eqb-true c 12 y)) r
        | inr d ↦ elim (cases_Bool (c == 32)) [
          | inl y ↦ subst P (sym (eqb-true c 32 y)) s
          | inr e ↦ (let never : false ≡ true = simp (n, a, b, d, e) at h in absurd (true≢false (sym never)))
        ]
      ]
    ]
  ]
]

named_letters : (a : ℕ) (buffer : List ℕ) (c : ℕ) → ends_bare c → named_value true (a ∷ buffer) (c ∷ []) ≡ named_value true (a ∷ buffer) (62 ∷ [])
named_letters a buffer = bare_cases (λ c. named_value true (a ∷ buffer) (c ∷ []) ≡ named_value true (a ∷ buffer) (62 ∷ [])) (one 9 refl refl) (one 10 refl refl) (one 12 refl refl) (one 32 refl refl) refl
  where
    one : (c : ℕ) → is_name_byte c ≡ false → goes_on c ≡ false → named_value true (a ∷ buffer) (c ∷ []) ≡ named_value true (a ∷ buffer) (62 ∷ [])
    one c n g = ap (λ r. resolved r (a ∷ buffer)) (named-same true a buffer (c ∷ []) (62 ∷ []) (letters-alike (a ∷ buffer) (c ∷ []) (62 ∷ []) n refl g))

pub named_same : (buffer : List ℕ) (c : ℕ) → ends_bare c → named_value true buffer (c ∷ []) ≡ named_value true buffer (62 ∷ [])
named_same [] = bare_cases (λ c. named_value true [] (c ∷ []) ≡ named_value true [] (62 ∷ [])) refl refl refl refl refl
named_same (a ∷ buffer) = named_letters a buffer

abbrev Same : Inside → ℕ → Type 0
Same i c = said (settle i c) ≡ bare_value i

bare_said : (k : List ℕ) (i : Inside) → In bare k i → (c : ℕ) → is_white_space c ≡ true → Same i c
bare_said k (value_of (no_quotes x w)) h = white_cases (Same (value_of (no_quotes x w))) refl refl refl refl
bare_said k (reference (no_quotes x w)) h = white_cases (Same (reference (no_quotes x w))) refl refl refl refl
bare_said k (named_reference (no_quotes x w) buffer) h = white_cases (Same (named_reference (no_quotes x w) buffer)) (ap (λ z. w ++ z) (named_same buffer 9 refl)) (ap (λ z. w ++ z) (named_same buffer 10 refl)) (ap (λ z. w ++ z) (named_same buffer 12 refl)) (ap (λ z. w ++ z) (named_same buffer 32 refl))
bare_said k (numeric_reference (no_quotes x w)) h = white_cases (Same (numeric_reference (no_quotes x w))) refl refl refl refl
bare_said k (hexadecimal_begin (no_quotes x w) y) h = white_cases (Same (hexadecimal_begin (no_quotes x w) y)) refl refl refl refl
bare_said k (decimal_begin (no_quotes x w)) h = white_cases (Same (decimal_begin (no_quotes x w))) refl refl refl refl
bare_said k (hexadecimal_number (no_quotes x w) code) h = white_cases (Same (hexadecimal_number (no_quotes x w) code)) refl refl refl refl
bare_said k (decimal_number (no_quotes x w) code) h = white_cases (Same (decimal_number (no_quotes x w) code)) refl refl refl refl
bare_said k _ h = absurd h

pub bare_spaced : (k : List ℕ) (i : Inside) → In bare k i → (c : ℕ) → is_white_space c ≡ true → settle i c ≡ stays false before_key ((k, bare_value i) ∷ [])
bare_spaced k i h c w = bare_space k i h c w ∙ ap (λ z. stays false before_key ((k, z) ∷ [])) (bare_said k i h c w)

pub bare_read : (k : List ℕ) (i : Inside) (text : List ℕ) (closes w : Bool) (xs : List HtmlAttribute) → In bare k i → opens text ≡ true → inner_text after_value false text ≡ ended closes xs w [] →
    inner_text i false text ≡ ended closes ((k, bare_value i) ∷ xs) w []
bare_read k i [] closes w xs h o e = absurd (true≢false (sym o))
bare_read k i (b ∷ text) closes w xs h o e = elim (or_cases (is_space b) (b == 62) o) [
  | inl y ↦ (
      let was : inner_text before_key (b == 13) text ≡ ended closes xs w [] =
      sym (ap (λ x. went x (b == 13) text) (between_space after_value tt (feed b) y) ∙ adding_none (inner_text before_key (b == 13) text)) ∙ e in
      ap (λ x. went x (b == 13) text) (bare_spaced k i h (feed b) y) ∙ ap (adding_to ((k, bare_value i) ∷ [])) was)
  | inr y ↦ subst (λ c. inner_text after_value false (c ∷ text) ≡ ended closes xs w [] → inner_text i false (c ∷ text) ≡ ended closes ((k, bare_value i) ∷ xs) w []) (sym (eqb-true b 62 y))
      (λ e. ap (λ x. went x false text) (bare_greater k i h) ∙ ap (adding_to ((k, bare_value i) ∷ [])) e) e
]

pub text_none : (k : List ℕ) (v : Bool) (text : List ℕ) (closes w : Bool) (xs : List HtmlAttribute) → over text ≡ true → inner_text after_value false text ≡ ended closes xs w [] →
    inner_text (before_value k) v text ≡ ended closes ((k, []) ∷ xs) w []
text_none k v [] closes w xs o e = absurd (true≢false (sym o))
text_none k v (b ∷ text) closes w xs o e =
    subst (λ c. inner_text after_value false (c ∷ text) ≡ ended closes xs w [] → inner_text (before_value k) v (c ∷ text) ≡ ended closes ((k, []) ∷ xs) w []) (sym (eqb-true b 62 o))
    (by_return v) e
  where
    by_return : (v : Bool) → inner_text after_value false (62 ∷ text) ≡ ended closes xs w [] → inner_text (before_value k) v (62 ∷ text) ≡ ended closes ((k, []) ∷ xs) w []
    by_return true e = ap (adding_to ((k, []) ∷ [])) e
    by_return false e = ap (adding_to ((k, []) ∷ [])) e

-- what blanks and another byte begin is read alike, whatever follows

free_alike : (gap : List ℕ) (c : ℕ) (x y : List ℕ) → is_space c ≡ false → free_after (gap ++ c ∷ x) ≡ free_after (gap ++ c ∷ y)
free_alike [] c x y n = rw n refl
free_alike (b ∷ gap) c x y n = ap (λ z. if is_space b then z else not (b == 61)) (free_alike gap c x y n)

pub alike_free : (gap : List ℕ) (c : ℕ) (x y : List ℕ) → is_space c ≡ false → is_free (gap ++ c ∷ x) ≡ is_free (gap ++ c ∷ y)
alike_free [] c x y n = rw n refl
alike_free (b ∷ gap) c x y n = ap (λ z. if is_space b then z else (b == 47) || (b == 62)) (free_alike gap c x y n)

pub alike_after : (gap : List ℕ) (c : ℕ) (x y : List ℕ) → is_space c ≡ false → free_after (gap ++ c ∷ x) ≡ free_after (gap ++ c ∷ y)
alike_after gap c x y n = free_alike gap c x y n

pub alike_opens : (gap : List ℕ) (c : ℕ) (x y : List ℕ) → opens (gap ++ c ∷ x) ≡ opens (gap ++ c ∷ y)
alike_opens [] c x y = refl
alike_opens (b ∷ gap) c x y = refl

pub alike_over : (gap : List ℕ) (c : ℕ) (x y : List ℕ) → over (gap ++ c ∷ x) ≡ over (gap ++ c ∷ y)
alike_over [] c x y = refl
alike_over (b ∷ gap) c x y = refl

-- after blanks

pub free_gap : (gap text : List ℕ) → list_all is_blank gap ≡ true → free_after text ≡ true → free_after (gap ++ text) ≡ true
free_gap [] text g f = f
free_gap (b ∷ gap) text g f =
    let p = blank_parts b gap g in
    elim (cases_Bool (is_space b)) [
      | inl y ↦ ap (λ (c : Bool). if c then free_after (gap ++ text) else not (b == 61)) y ∙ free_gap gap text p.1 f
      | inr n ↦ (
          let slash : (b == 47) ≡ true = sym (ap (λ (c : Bool). c || (b == 47)) n) ∙ p.0 in
          ap (λ (c : Bool). if c then free_after (gap ++ text) else not (b == 61)) n ∙ ap (λ c. not (c == 61)) (eqb-true b 47 slash))
    ]

pub gap_free : (b : ℕ) (gap text : List ℕ) → list_all is_blank (b ∷ gap) ≡ true → free_after text ≡ true → is_free (b ∷ (gap ++ text)) ≡ true
gap_free b gap text g f =
    let p = blank_parts b gap g in
    elim (cases_Bool (is_space b)) [
      | inl y ↦ ap (λ (c : Bool). if c then free_after (gap ++ text) else (b == 47) || (b == 62)) y ∙ free_gap gap text p.1 f
      | inr n ↦ (
          let slash : (b == 47) ≡ true = sym (ap (λ (c : Bool). c || (b == 47)) n) ∙ p.0 in
          ap (λ (c : Bool). if c then free_after (gap ++ text) else (b == 47) || (b == 62)) n ∙ ap (λ (c : Bool). c || (b == 62)) slash)
    ]

pub blank_not_over : (b : ℕ) → is_blank b ≡ true → (b == 62) ≡ false
blank_not_over b h = elim (cases_Bool (b == 62)) [
  | inl y ↦ absurd (true≢false (sym h ∙ ap is_blank (eqb-true b 62 y)))
  | inr n ↦ n
]
