-- The tokenizer resolves a reference where it ends, and the definition looks at it from its `&`: they say the same.
use Rattle.std.proofs.Common.{◌≡◌, ℕ, zero, suc, ◌+◌, ◌*◌, Bool, true, false, not, ◌||◌, ◌==◌, List, [], ◌∷◌, ◌++◌, drop, Option, Some, None, codes, inl, inr, refl, ap, ap₂, sym, ◌∙◌, subst, append_assoc, append-nil, option_map, true≢false, if◌then◌else◌}
use Rattle.std.specs.Prelude.{⊤}
use Rattle.std.specs.Char.{is_ascii_alphanumeric, is_ascii_digit, is_ascii_hexdigit, to_ascii_lowercase}
use Rattle.std.specs.List.{list_all}
use Rattle.std.proofs.lemmas.Bool.{and_from, and_parts, cases_Bool, eqb-true, not-true}
use Rattle.std.proofs.lemmas.List.Folds.{list_all-append}
use Rattle.tl_html_spec.specs.HtmlTokenizer.{HtmlToken, State, Step, again_in, at_end, character_reference, decimal, decimal_start, digit_value, flushed, hexadecimal, hexadecimal_start, is_value, named_character_reference, numeric_character_reference, settled, step, to, tokens_from, whole_step}
use Rattle.tl_html_spec.specs.References.{Reference, begins_with, named_reference, named_value, number_value}
use Rattle.tl_html_spec.specs.Unescaped.{number, number_from, numeric_reference, one_before, unescaped}
use Rattle.tl_html_spec.proofs.Ahead.{AreLetters, is_name_byte}
use Rattle.tl_html_spec.proofs.Looked.{byte-plain, letters-read, passes, read_as, semicolon-read}

-- a text or a value that the tokenizer reads: its state, and what was emitted, where these characters were read of it
pub record Reading (v : Bool) (stops : ℕ → Bool) : Type 0 where
  pub at : List ℕ → State
  pub out : List ℕ → List HtmlToken
  pub new : List ℕ → List HtmlToken
  pub adds : (d s : List ℕ) → out (d ++ s) ≡ out d ++ new s
  pub is : (d : List ℕ) → is_value (at d) ≡ v
  pub flush : (d s : List ℕ) (again : Bool) → flushed (at d) s again ≡ record { next = at (d ++ s); emits = new s; again = again }
  pub ends : (d : List ℕ) → at_end (at d) ≡ []
  pub plain : (d : List ℕ) (b : ℕ) → (b == 38) ≡ false → stops b ≡ false → step (at d) b ≡ record { next = at (d ++ b ∷ []); emits = new (b ∷ []); again = false }
  pub amp : (d : List ℕ) → step (at d) 38 ≡ to (character_reference (at d))
  pub rests : (d : List ℕ) (b : ℕ) → (step (at d) b).again ≡ false

-- a byte that ends each reference
pub record IsEnd (q : ℕ) : Type 0 where
  pub alphanumeric : is_ascii_alphanumeric q ≡ false
  pub hexdigit : is_ascii_hexdigit q ≡ false
  pub digit : is_ascii_digit q ≡ false
  pub semicolon : (q == 59) ≡ false
  pub number_sign : (q == 35) ≡ false
  pub equals : (q == 61) ≡ false
  pub x : (to_ascii_lowercase q == 120) ≡ false

-- what may stand after: nothing, or such a byte
abbrev pub Rest : List ℕ → Type 0
Rest [] = ⊤
Rest (q ∷ r) = IsEnd q

or_false : (a b : Bool) → a ≡ false → b ≡ false → (a || b) ≡ false
or_false true b x y = absurd (true≢false x)
or_false false b x y = y

-- steps

abbrev going : List HtmlToken → Step → List ℕ → List HtmlToken
going before s text = before ++ (s.emits ++ tokens_from s.next text)

settled-rests : (n : ℕ) (s : Step) (b : ℕ) → s.again ≡ false → settled n s b ≡ s
settled-rests zero s b e = refl
settled-rests (suc n) s b e =
    ap (λ (a : Bool). elim a as (λ _. Step) [
      | false ↦ s
      | true ↦ (let r = settled n (step s.next b) b in record r { emits = s.emits ++ r.emits })
    ]) e

module _ (v : Bool) (stops : ℕ → Bool) (R : Reading v stops) where
  -- the tokens of a text, where these characters were read before it
  abbrev from : List ℕ → List ℕ → List HtmlToken
  from d s = R.out d ++ tokens_from (R.at d) s

  tokens_assoc : (xs ys zs : List HtmlToken) → (xs ++ ys) ++ zs ≡ xs ++ (ys ++ zs)
  tokens_assoc xs ys zs = append_assoc xs ys zs

  -- what is flushed, and the byte goes on, or is read again
  flush-on : (X : State) (d bytes : List ℕ) (b : ℕ) (s : List ℕ) → whole_step X b ≡ flushed (R.at d) bytes false → R.out d ++ tokens_from X (b ∷ s) ≡ from (d ++ bytes) s
  flush-on X d bytes b s e =
      ap (λ (x : Step). going (R.out d) x s) (e ∙ R.flush d bytes false)
      ∙ sym (tokens_assoc (R.out d) (R.new bytes) (tokens_from (R.at (d ++ bytes)) s))
      ∙ ap (λ ts. ts ++ tokens_from (R.at (d ++ bytes)) s) (sym (R.adds d bytes))

  flush-again : (X : State) (d bytes : List ℕ) (b k : ℕ) (s : List ℕ) → whole_step X b ≡ settled (suc k) (flushed (R.at d) bytes true) b →
      R.out d ++ tokens_from X (b ∷ s) ≡ from (d ++ bytes) (b ∷ s)
  flush-again X d bytes b k s e =
      let next : State = R.at (d ++ bytes) in
      let st : Step = step next b in
      let whole : whole_step next b ≡ st = settled-rests 3 st b (R.rests (d ++ bytes) b) in
      let inner : settled k st b ≡ st = settled-rests k st b (R.rests (d ++ bytes) b) in
      ap (λ (x : Step). going (R.out d) x s)
      (e ∙ ap (λ (x : Step). settled (suc k) x b) (R.flush d bytes true)
      ∙ ap (λ (x : Step). let y : Step = record x { emits = R.new bytes ++ x.emits } in y) inner)
      ∙ ap (λ ts. R.out d ++ ts) (tokens_assoc (R.new bytes) st.emits (tokens_from st.next s))
      ∙ sym (tokens_assoc (R.out d) (R.new bytes) (st.emits ++ tokens_from st.next s))
      ∙ ap (λ ts. ts ++ (st.emits ++ tokens_from st.next s)) (sym (R.adds d bytes))
      ∙ sym (ap (λ (x : Step). going (R.out (d ++ bytes)) x s) whole)

  flush-end : (X : State) (d bytes : List ℕ) → at_end X ≡ (flushed (R.at d) bytes false).emits → R.out d ++ tokens_from X [] ≡ from (d ++ bytes) []
  flush-end X d bytes e =
      ap (λ ts. R.out d ++ ts) (e ∙ ap (λ (x : Step). x.emits) (R.flush d bytes false))
      ∙ sym (R.adds d bytes)
      ∙ sym (append-nil (R.out (d ++ bytes)))
      ∙ ap (λ ts. R.out (d ++ bytes) ++ ts) (sym (R.ends (d ++ bytes)))

  goes : (X Y : State) (d : List ℕ) (b : ℕ) (s : List ℕ) → whole_step X b ≡ to Y → R.out d ++ tokens_from X (b ∷ s) ≡ R.out d ++ tokens_from Y s
  goes X Y d b s e = ap (λ (x : Step). going (R.out d) x s) e

  module _ (r : List ℕ) (rest : Rest r) where
    -- what the tokenizer emits from a state for a text and the rest is as if these characters had been read
    abbrev Reads : List ℕ → State → List ℕ → List ℕ → Type 0
    Reads d X t s = R.out d ++ tokens_from X (t ++ r) ≡ from (d ++ s) r

    abbrev digits : (ℕ → Bool) → ℕ → ℕ → List ℕ → List ℕ
    digits is_digit base code t = (number_from is_digit base code t).gives ++ unescaped v (drop (number_from is_digit base code t).takes t)

    record All (t : List ℕ) : Type 0 where
      main : (d : List ℕ) → Reads d (R.at d) t (unescaped v t)
      ref : (d : List ℕ) → Reads d (character_reference (R.at d)) t (unescaped v (38 ∷ t))
      letters : (d : List ℕ) (c : ℕ) (w : List ℕ) → AreLetters (c ∷ w) → Reads d (named_character_reference (R.at d) (c ∷ w)) t (unescaped v (38 ∷ ((c ∷ w) ++ t)))
      numeric : (d : List ℕ) → Reads d (numeric_character_reference (R.at d)) t (unescaped v (38 ∷ 35 ∷ t))
      hex_start : (d : List ℕ) (x : ℕ) → (to_ascii_lowercase x == 120) ≡ true → (x == 38) ≡ false → Reads d (hexadecimal_start (R.at d) x) t (unescaped v (38 ∷ 35 ∷ x ∷ t))
      hex : (d : List ℕ) (code : ℕ) → Reads d (hexadecimal (R.at d) code) t (digits is_ascii_hexdigit 16 code t)
      dec : (d : List ℕ) (code : ℕ) → Reads d (decimal (R.at d) code) t (digits is_ascii_digit 10 code t)

    -- characters that were read in two parts
    joined : (d x y : List ℕ) → from ((d ++ x) ++ y) r ≡ from (d ++ (x ++ y)) r
    joined d x y = ap (λ s. from s r) (append_assoc d x y)

    -- a byte of the text or the value itself
    byte : (b : ℕ) (t : List ℕ) → stops b ≡ false → All t → (d : List ℕ) → Reads d (R.at d) (b ∷ t) (unescaped v (b ∷ t))
    byte b t h all d = elim (cases_Bool (b == 38)) [
      | inl y ↦
          let is : b ≡ 38 = eqb-true b 38 y in
          subst (λ c. Reads d (R.at d) (c ∷ t) (unescaped v (c ∷ t))) (sym is)
          (goes (R.at d) (character_reference (R.at d)) d 38 (t ++ r) (settled-rests 3 (step (R.at d) 38) 38 (R.rests d 38) ∙ R.amp d) ∙ all.ref d)
      | inr y ↦
          ap (λ (x : Step). going (R.out d) x (t ++ r)) (settled-rests 3 (step (R.at d) b) b (R.rests d b) ∙ R.plain d b y h)
          ∙ sym (tokens_assoc (R.out d) (R.new (b ∷ [])) (tokens_from (R.at (d ++ b ∷ [])) (t ++ r)))
          ∙ ap (λ ts. ts ++ tokens_from (R.at (d ++ b ∷ [])) (t ++ r)) (sym (R.adds d (b ∷ [])))
          ∙ all.main (d ++ b ∷ [])
          ∙ joined d (b ∷ []) (unescaped v t)
          ∙ ap (λ s. from (d ++ s) r) (sym (byte-plain v b t y))
    ]

    -- a state that flushes these characters and reads the byte again
    again : (X : State) (d bytes : List ℕ) (b k : ℕ) (t s : List ℕ) → stops b ≡ false → All t →
        whole_step X b ≡ settled (suc k) (flushed (R.at d) bytes true) b → s ≡ bytes ++ unescaped v (b ∷ t) → Reads d X (b ∷ t) s
    again X d bytes b k t s h all e is =
        flush-again X d bytes b k (t ++ r) e
        ∙ byte b t h all (d ++ bytes)
        ∙ joined d bytes (unescaped v (b ∷ t))
        ∙ ap (λ x. from (d ++ x) r) (sym is)

    -- or goes on after it
    on : (X : State) (d bytes : List ℕ) (b : ℕ) (t s : List ℕ) → All t →
        whole_step X b ≡ flushed (R.at d) bytes false → s ≡ bytes ++ unescaped v t → Reads d X (b ∷ t) s
    on X d bytes b t s all e is =
        flush-on X d bytes b (t ++ r) e
        ∙ all.main (d ++ bytes)
        ∙ joined d bytes (unescaped v t)
        ∙ ap (λ x. from (d ++ x) r) (sym is)

    -- the end of the text or the value
    cut : (X : State) (d bytes s : List ℕ) → at_end X ≡ (flushed (R.at d) bytes false).emits →
        ((q : ℕ) → IsEnd q → (k : ℕ) × (whole_step X q ≡ settled (suc k) (flushed (R.at d) bytes true) q)) → s ≡ bytes → Reads d X [] s
    cut X d bytes s e steps is = here r rest ∙ ap (λ x. from (d ++ x) r) (sym is)
      where
        here : (r : List ℕ) → Rest r → R.out d ++ tokens_from X r ≡ from (d ++ bytes) r
        here [] none = flush-end X d bytes e
        here (q ∷ t) ends = let st = steps q ends in flush-again X d bytes q st.0 t st.1

    -- digits

    abbrev number_step : (ℕ → Bool) → ℕ → (ℕ → State) → List ℕ → ℕ → ℕ → Step
    number_step is_digit base state d code b =
        if is_digit b then to (state (code * base + digit_value b)) else flushed (R.at d) (number_value code) (not (b == 59))

    digits-cut : (is_digit : ℕ → Bool) (base : ℕ) (state : ℕ → State) (d : List ℕ) (code : ℕ) →
        ((code b : ℕ) → step (state code) b ≡ number_step is_digit base state d code b) →
        (at_end (state code) ≡ (flushed (R.at d) (number_value code) false).emits) →
        ((q : ℕ) → IsEnd q → is_digit q ≡ false) → Reads d (state code) [] (digits is_digit base code [])
    digits-cut is_digit base state d code steps e ends =
        cut (state code) d (number_value code) (number_value code ++ []) e
        (λ q is. (
          2,
          ap (λ (x : Step). settled 3 x q)
              (steps code q
              ∙ ap (λ (y : Bool). if y then to (state (code * base + digit_value q)) else flushed (R.at d) (number_value code) (not (q == 59))) (ends q is)
              ∙ ap (λ (y : Bool). flushed (R.at d) (number_value code) (not y)) is.semicolon),
        ))
        (append-nil (number_value code))

    digits-more : (is_digit : ℕ → Bool) (base : ℕ) (state : ℕ → State) (d : List ℕ) (code b : ℕ) (t : List ℕ) →
        ((code b : ℕ) → step (state code) b ≡ number_step is_digit base state d code b) → stops b ≡ false → All t →
        ((code : ℕ) → Reads d (state code) t (digits is_digit base code t)) → Reads d (state code) (b ∷ t) (digits is_digit base code (b ∷ t))
    digits-more is_digit base state d code b t steps h all more = elim (cases_Bool (is_digit b)) [
      | inl y ↦
          goes (state code) (state (code * base + digit_value b)) d b (t ++ r) (ap (λ (x : Step). settled 3 x b) (steps code b ∙ ap (chosen b) y))
          ∙ more (code * base + digit_value b)
          ∙ ap (λ (x : Reference). from (d ++ (x.gives ++ unescaped v (drop x.takes (b ∷ t)))) r) (sym (ap found y))
      | inr n ↦ elim (cases_Bool (b == 59)) [
        | inl y ↦
            on (state code) d (number_value code) b t (digits is_digit base code (b ∷ t)) all
            (ap (λ (x : Step). settled 3 x b) (steps code b ∙ ap (chosen b) n ∙ ap (λ (c : Bool). flushed (R.at d) (number_value code) (not c)) y) ∙ flushed-rests d)
            (ap (λ (x : Reference). x.gives ++ unescaped v (drop x.takes (b ∷ t))) (ap found n ∙ ap (left) y))
        | inr y ↦
            again (state code) d (number_value code) b 2 t (digits is_digit base code (b ∷ t)) h all
            (ap (λ (x : Step). settled 3 x b) (steps code b ∙ ap (chosen b) n ∙ ap (λ (c : Bool). flushed (R.at d) (number_value code) (not c)) y))
            (ap (λ (x : Reference). x.gives ++ unescaped v (drop x.takes (b ∷ t))) (ap found n ∙ ap (left) y))
      ]
    ]
      where
        chosen : ℕ → Bool → Step
        chosen c y = if y then to (state (code * base + digit_value c)) else flushed (R.at d) (number_value code) (not (c == 59))

        found : Bool → Reference
        found y = if y then one_before (number_from is_digit base (code * base + digit_value b) t)
            else record { gives = number_value code; takes = if b == 59 then 1 else 0 }

        left : Bool → Reference
        left y = record { gives = number_value code; takes = if y then 1 else 0 }

        flushed-rests : (d : List ℕ) → settled 3 (flushed (R.at d) (number_value code) false) b ≡ flushed (R.at d) (number_value code) false
        flushed-rests d = settled-rests 3 (flushed (R.at d) (number_value code) false) b (ap (λ (x : Step). x.again) (R.flush d (number_value code) false))

    -- what the definition says of numbers

    abbrev after_sign : Option Reference → List ℕ → List ℕ
    after_sign o s = read_as v o (35 ∷ s)

    sign-read : (s : List ℕ) (o : Option Reference) → numeric_reference s ≡ o → unescaped v (38 ∷ 35 ∷ s) ≡ after_sign (option_map one_before o) s
    sign-read s o e = ap (λ p. after_sign (option_map one_before p) s) e

    abbrev numeric_of : ℕ → List ℕ → Bool → Option Reference
    numeric_of b s y = if y then option_map one_before (number is_ascii_hexdigit 16 s) else number is_ascii_digit 10 (b ∷ s)

    abbrev number_of : (ℕ → Bool) → ℕ → List ℕ → Bool → Option Reference
    number_of is_digit base s y = if y then Some (number_from is_digit base 0 s) else None

    -- no digit
    sign-none : (b : ℕ) (t : List ℕ) → (to_ascii_lowercase b == 120) ≡ false → is_ascii_digit b ≡ false → unescaped v (38 ∷ 35 ∷ b ∷ t) ≡ codes "&#" ++ unescaped v (b ∷ t)
    sign-none b t x n = sign-read (b ∷ t) None (ap (numeric_of b t) x ∙ ap (number_of is_ascii_digit 10 (b ∷ t)) n)

    sign-digit : (b : ℕ) (t : List ℕ) → (to_ascii_lowercase b == 120) ≡ false → is_ascii_digit b ≡ true → unescaped v (38 ∷ 35 ∷ b ∷ t) ≡ digits is_ascii_digit 10 0 (b ∷ t)
    sign-digit b t x y =
        let q : Reference = number_from is_ascii_digit 10 0 (b ∷ t) in
        sign-read (b ∷ t) (Some q) (ap (numeric_of b t) x ∙ ap (number_of is_ascii_digit 10 (b ∷ t)) y)
        ∙ ap (λ s. q.gives ++ s) (passes v q.takes (b ∷ t))

    hex-none : (x : ℕ) (t : List ℕ) → (to_ascii_lowercase x == 120) ≡ true → (x == 38) ≡ false → begins_with is_ascii_hexdigit t ≡ false →
        unescaped v (38 ∷ 35 ∷ x ∷ t) ≡ (codes "&#" ++ x ∷ []) ++ unescaped v t
    hex-none x t e a n =
        sign-read (x ∷ t) None (ap (numeric_of x t) e ∙ ap (λ y. option_map one_before (number_of is_ascii_hexdigit 16 t y)) n)
        ∙ ap (λ s. 38 ∷ 35 ∷ s) (byte-plain v x t a)

    hex-digit : (x b : ℕ) (t : List ℕ) → (to_ascii_lowercase x == 120) ≡ true → is_ascii_hexdigit b ≡ true →
        unescaped v (38 ∷ 35 ∷ x ∷ b ∷ t) ≡ digits is_ascii_hexdigit 16 0 (b ∷ t)
    hex-digit x b t e y =
        let q : Reference = number_from is_ascii_hexdigit 16 0 (b ∷ t) in
        sign-read (x ∷ b ∷ t) (Some (one_before q)) (ap (numeric_of x (b ∷ t)) e ∙ ap (λ y. option_map one_before (number_of is_ascii_hexdigit 16 (b ∷ t) y)) y)
        ∙ ap (λ s. q.gives ++ s) (passes v q.takes (b ∷ t))

    -- neither a name nor a number
    none-read : (b : ℕ) (t : List ℕ) → is_ascii_alphanumeric b ≡ false → (b == 35) ≡ false → unescaped v (38 ∷ b ∷ t) ≡ codes "&" ++ unescaped v (b ∷ t)
    none-read b t x y = ap (λ (o : Option Reference). read_as v o (b ∷ t)) (ap (if_letter) x ∙ ap if_sign y)
      where
        if_letter : Bool → Option Reference
        if_letter c = if c then named_reference v (b ∷ t) else if b == 35 then option_map one_before (numeric_reference t) else None

        if_sign : Bool → Option Reference
        if_sign c = if c then option_map one_before (numeric_reference t) else None

    -- the first byte after `&`

    abbrev ref_of : List ℕ → ℕ → Bool → Bool → Step
    ref_of d b letter sign =
        if letter then again_in (named_character_reference (R.at d) [])
        else if sign then to (numeric_character_reference (R.at d))
        else flushed (R.at d) (codes "&") true

    ref-step : (d : List ℕ) (b : ℕ) (x y : Bool) → is_ascii_alphanumeric b ≡ x → (b == 35) ≡ y → whole_step (character_reference (R.at d)) b ≡ settled 3 (ref_of d b x y) b
    ref-step d b x y e f = ap₂ (λ p q. settled 3 (ref_of d b p q) b) e f

    ref-cut : (d : List ℕ) → Reads d (character_reference (R.at d)) [] (unescaped v (38 ∷ []))
    ref-cut d = cut (character_reference (R.at d)) d (codes "&") (unescaped v (38 ∷ [])) refl (λ q is. (2, ref-step d q false false is.alphanumeric is.number_sign)) refl

    abbrev letters_of : List ℕ → List ℕ → ℕ → Bool → Bool → Bool → Step
    letters_of d w b value letter semicolon =
        if letter then to (named_character_reference (R.at d) (w ++ b ∷ []))
        else if semicolon then flushed (R.at d) (named_value value (w ++ b ∷ []) []) false
        else flushed (R.at d) (named_value value w (b ∷ [])) true

    letters-step : (d w : List ℕ) (b : ℕ) (x y : Bool) → is_ascii_alphanumeric b ≡ x → (b == 59) ≡ y →
        step (named_character_reference (R.at d) w) b ≡ letters_of d w b v x y
    letters-step d w b x y e f =
        ap (λ z. letters_of d w b z (is_ascii_alphanumeric b) (b == 59)) (R.is d) ∙ ap₂ (λ p q. letters_of d w b v p q) e f

    letter-kept : (b : ℕ) → is_ascii_alphanumeric b ≡ true → AreLetters (b ∷ [])
    letter-kept b e = and_from (is_ascii_alphanumeric b) true e refl

    ref-more : (d : List ℕ) (b : ℕ) (t : List ℕ) → stops b ≡ false → All t → Reads d (character_reference (R.at d)) (b ∷ t) (unescaped v (38 ∷ b ∷ t))
    ref-more d b t h all = elim (cases_Bool (is_ascii_alphanumeric b)) [
      | inl y ↦
          goes (character_reference (R.at d)) (named_character_reference (R.at d) (b ∷ [])) d b (t ++ r)
          (ref-step d b true (b == 35) y refl ∙ ap (λ (x : Step). settled 2 x b) (letters-step d [] b true (b == 59) y refl))
          ∙ all.letters d b [] (letter-kept b y)
      | inr n ↦ elim (cases_Bool (b == 35)) [
        | inl y ↦
            goes (character_reference (R.at d)) (numeric_character_reference (R.at d)) d b (t ++ r) (ref-step d b false true n y)
            ∙ all.numeric d
            ∙ ap (λ c. from (d ++ unescaped v (38 ∷ c ∷ t)) r) (sym (eqb-true b 35 y))
        | inr y ↦ again (character_reference (R.at d)) d (codes "&") b 2 t (unescaped v (38 ∷ b ∷ t)) h all (ref-step d b false false n y) (none-read b t n y)
      ]
    ]

    -- names

    fresh : (b : ℕ) → is_ascii_alphanumeric b ≡ false → (b == 59) ≡ false → is_name_byte b ≡ false
    fresh b x y = or_false (is_ascii_alphanumeric b) (b == 59) x y

    letters-cut : (d : List ℕ) (c : ℕ) (w : List ℕ) → AreLetters (c ∷ w) → Reads d (named_character_reference (R.at d) (c ∷ w)) [] (unescaped v (38 ∷ ((c ∷ w) ++ [])))
    letters-cut d c w h =
        let bytes : List ℕ = named_value v (c ∷ w) [] in
        let is : unescaped v (38 ∷ ((c ∷ w) ++ [])) ≡ bytes = letters-read v c w [] [] h refl refl refl ∙ append-nil bytes in
        cut (named_character_reference (R.at d) (c ∷ w)) d bytes (unescaped v (38 ∷ ((c ∷ w) ++ [])))
        (ap (λ z. (flushed (R.at d) (named_value z (c ∷ w) []) false).emits) (R.is d))
        (λ q ends.
        let same : named_value v (c ∷ w) (q ∷ []) ≡ bytes =
        sym (append-nil (named_value v (c ∷ w) (q ∷ [])))
        ∙ sym (letters-read v c w [] (q ∷ []) h refl (fresh q ends.alphanumeric ends.semicolon) (sym (or_false (q == 61) (is_ascii_alphanumeric q) ends.equals ends.alphanumeric)))
        ∙ is in (
          2,
          ap (λ (x : Step). settled 3 x q) (letters-step d (c ∷ w) q false false ends.alphanumeric ends.semicolon ∙ ap (λ s. flushed (R.at d) s true) same),
        ))
        is

    letters-more : (d : List ℕ) (c : ℕ) (w : List ℕ) (b : ℕ) (t : List ℕ) → AreLetters (c ∷ w) → stops b ≡ false → All t →
        Reads d (named_character_reference (R.at d) (c ∷ w)) (b ∷ t) (unescaped v (38 ∷ ((c ∷ w) ++ b ∷ t)))
    letters-more d c w b t l h all = elim (cases_Bool (is_ascii_alphanumeric b)) [
      | inl y ↦
          let longer : AreLetters (c ∷ (w ++ b ∷ [])) =
          list_all-append is_ascii_alphanumeric (c ∷ w) (b ∷ []) ∙ and_from (list_all is_ascii_alphanumeric (c ∷ w)) (list_all is_ascii_alphanumeric (b ∷ [])) l (letter-kept b y) in
          goes (named_character_reference (R.at d) (c ∷ w)) (named_character_reference (R.at d) ((c ∷ w) ++ b ∷ [])) d b (t ++ r)
          (ap (λ (x : Step). settled 3 x b) (letters-step d (c ∷ w) b true (b == 59) y refl))
          ∙ all.letters d c (w ++ b ∷ []) longer
          ∙ ap (λ s. from (d ++ unescaped v (38 ∷ s)) r) (append_assoc (c ∷ w) (b ∷ []) t)
      | inr n ↦ elim (cases_Bool (b == 59)) [
        | inl y ↦
            let bytes : List ℕ = named_value v ((c ∷ w) ++ b ∷ []) [] in
            let st : Step = flushed (R.at d) bytes false in
            let is : b ≡ 59 = eqb-true b 59 y in
            on (named_character_reference (R.at d) (c ∷ w)) d bytes b t (unescaped v (38 ∷ ((c ∷ w) ++ b ∷ t))) all
            (ap (λ (x : Step). settled 3 x b) (letters-step d (c ∷ w) b false true n y)
            ∙ settled-rests 3 st b (ap (λ (x : Step). x.again) (R.flush d bytes false)))
            (ap (λ q. unescaped v (38 ∷ ((c ∷ w) ++ q ∷ t))) is
            ∙ semicolon-read v c w t l
            ∙ ap (λ q. named_value v ((c ∷ w) ++ q ∷ []) [] ++ unescaped v t) (sym is))
        | inr y ↦
            again (named_character_reference (R.at d) (c ∷ w)) d (named_value v (c ∷ w) (b ∷ [])) b 2 t (unescaped v (38 ∷ ((c ∷ w) ++ b ∷ t))) h all
            (ap (λ (x : Step). settled 3 x b) (letters-step d (c ∷ w) b false false n y))
            (letters-read v c w (b ∷ t) (b ∷ []) l (fresh b n y) (fresh b n y) refl)
      ]
    ]

    -- numbers

    abbrev numeric_step : List ℕ → ℕ → Bool → Bool → Step
    numeric_step d b x y =
        if x then to (hexadecimal_start (R.at d) b)
        else settled 2 (if y then again_in (decimal (R.at d) 0) else flushed (R.at d) (codes "&#") true) b

    numeric-step : (d : List ℕ) (b : ℕ) (y : Bool) → (to_ascii_lowercase b == 120) ≡ false → is_ascii_digit b ≡ y →
        whole_step (numeric_character_reference (R.at d)) b ≡ settled 2 (if y then again_in (decimal (R.at d) 0) else flushed (R.at d) (codes "&#") true) b
    numeric-step d b y e f =
        ap (λ (x : Bool). settled 3 (if x then to (hexadecimal_start (R.at d) b) else again_in (decimal_start (R.at d))) b) e
        ∙ ap (λ (x : Bool). settled 2 (if x then again_in (decimal (R.at d) 0) else flushed (R.at d) (codes "&#") true) b) f

    numeric-cut : (d : List ℕ) → Reads d (numeric_character_reference (R.at d)) [] (unescaped v (38 ∷ 35 ∷ []))
    numeric-cut d =
        cut (numeric_character_reference (R.at d)) d (codes "&#") (unescaped v (38 ∷ 35 ∷ [])) refl (λ q is. (1, numeric-step d q false is.x is.digit)) refl

    numeric-more : (d : List ℕ) (b : ℕ) (t : List ℕ) → stops b ≡ false → All t → Reads d (numeric_character_reference (R.at d)) (b ∷ t) (unescaped v (38 ∷ 35 ∷ b ∷ t))
    numeric-more d b t h all = elim (cases_Bool (to_ascii_lowercase b == 120)) [
      | inl y ↦
          goes (numeric_character_reference (R.at d)) (hexadecimal_start (R.at d) b) d b (t ++ r)
          (ap (λ (x : Bool). settled 3 (if x then to (hexadecimal_start (R.at d) b) else again_in (decimal_start (R.at d))) b) y)
          ∙ all.hex_start d b y (x-plain b y)
      | inr n ↦ elim (cases_Bool (is_ascii_digit b)) [
        | inl y ↦
            goes (numeric_character_reference (R.at d)) (decimal (R.at d) (0 * 10 + digit_value b)) d b (t ++ r)
            (numeric-step d b true n y
            ∙ ap (λ (x : Bool). settled 1 (if x then to (decimal (R.at d) (0 * 10 + digit_value b)) else flushed (R.at d) (number_value 0) (not (b == 59))) b) y)
            ∙ all.dec d (0 * 10 + digit_value b)
            ∙ ap (λ s. from (d ++ s) r) (sym (sign-digit b t n y ∙ ap (λ (x : Reference). x.gives ++ unescaped v (drop x.takes (b ∷ t))) (first_digit is_ascii_digit 10 b t y)))
        | inr y ↦
            again (numeric_character_reference (R.at d)) d (codes "&#") b 1 t (unescaped v (38 ∷ 35 ∷ b ∷ t)) h all (numeric-step d b false n y) (sign-none b t n y)
      ]
    ]
      where
        x-plain : (b : ℕ) → (to_ascii_lowercase b == 120) ≡ true → (b == 38) ≡ false
        x-plain b e = elim (cases_Bool (b == 38)) [
          | inl y ↦ absurd (true≢false (sym e ∙ ap (λ c. to_ascii_lowercase c == 120) (eqb-true b 38 y)))
          | inr y ↦ y
        ]

        first_digit : (is_digit : ℕ → Bool) (base b : ℕ) (t : List ℕ) → is_digit b ≡ true →
            number_from is_digit base 0 (b ∷ t) ≡ one_before (number_from is_digit base (0 * base + digit_value b) t)
        first_digit is_digit base b t e =
            ap (λ (y : Bool). let x : Reference = if y then one_before (number_from is_digit base (0 * base + digit_value b) t)
            else record { gives = number_value 0; takes = if b == 59 then 1 else 0 } in x) e

    abbrev start_step : List ℕ → ℕ → Bool → Step
    start_step d x y = if y then again_in (hexadecimal (R.at d) 0) else flushed (R.at d) (codes "&#" ++ x ∷ []) true

    start-cut : (d : List ℕ) (x : ℕ) → (to_ascii_lowercase x == 120) ≡ true → (x == 38) ≡ false →
        Reads d (hexadecimal_start (R.at d) x) [] (unescaped v (38 ∷ 35 ∷ x ∷ []))
    start-cut d x e p =
        cut (hexadecimal_start (R.at d) x) d (codes "&#" ++ x ∷ []) (unescaped v (38 ∷ 35 ∷ x ∷ [])) refl
        (λ q is. (2, ap (λ (y : Bool). settled 3 (start_step d x y) q) is.hexdigit))
        (hex-none x [] e p refl)

    start-more : (d : List ℕ) (x b : ℕ) (t : List ℕ) → (to_ascii_lowercase x == 120) ≡ true → (x == 38) ≡ false → stops b ≡ false → All t →
        Reads d (hexadecimal_start (R.at d) x) (b ∷ t) (unescaped v (38 ∷ 35 ∷ x ∷ b ∷ t))
    start-more d x b t e p h all = elim (cases_Bool (is_ascii_hexdigit b)) [
      | inl y ↦
          goes (hexadecimal_start (R.at d) x) (hexadecimal (R.at d) (0 * 16 + digit_value b)) d b (t ++ r)
          (ap (λ (z : Bool). settled 3 (start_step d x z) b) y
          ∙ ap (λ (z : Bool). settled 2 (if z then to (hexadecimal (R.at d) (0 * 16 + digit_value b)) else flushed (R.at d) (number_value 0) (not (b == 59))) b) y)
          ∙ all.hex d (0 * 16 + digit_value b)
          ∙ ap (λ s. from (d ++ s) r) (sym (hex-digit x b t e y ∙ ap (λ (z : Reference). z.gives ++ unescaped v (drop z.takes (b ∷ t))) (first y)))
      | inr n ↦
          again (hexadecimal_start (R.at d) x) d (codes "&#" ++ x ∷ []) b 2 t (unescaped v (38 ∷ 35 ∷ x ∷ b ∷ t)) h all
          (ap (λ (z : Bool). settled 3 (start_step d x z) b) n)
          (hex-none x (b ∷ t) e p n)
    ]
      where
        first : is_ascii_hexdigit b ≡ true → number_from is_ascii_hexdigit 16 0 (b ∷ t) ≡ one_before (number_from is_ascii_hexdigit 16 (0 * 16 + digit_value b) t)
        first y =
            ap (λ (z : Bool). let q : Reference = if z then one_before (number_from is_ascii_hexdigit 16 (0 * 16 + digit_value b) t)
            else record { gives = number_value 0; takes = if b == 59 then 1 else 0 } in q) y

    all : (t : List ℕ) → list_all (λ b. not (stops b)) t ≡ true → All t
    all [] h = record {
      main = λ d. ap (λ s. from s r) (sym (append-nil d));
      ref = ref-cut;
      letters = letters-cut;
      numeric = numeric-cut;
      hex_start = start-cut;
      hex = λ d code. digits-cut is_ascii_hexdigit 16 (hexadecimal (R.at d)) d code (λ code b. refl) refl (λ q is. is.hexdigit);
      dec = λ d code. digits-cut is_ascii_digit 10 (decimal (R.at d)) d code (λ code b. refl) refl (λ q is. is.digit);
    }
    all (b ∷ t) h =
        let here = and_parts (not (stops b)) (list_all (λ c. not (stops c)) t) h in
        let none : stops b ≡ false = not-true (stops b) here.0 in
        let more = all t here.1 in
        record {
          main = byte b t none more;
          ref = λ d. ref-more d b t none more;
          letters = λ d c w l. letters-more d c w b t l none more;
          numeric = λ d. numeric-more d b t none more;
          hex_start = λ d x e p. start-more d x b t e p none more;
          hex = λ d code. digits-more is_ascii_hexdigit 16 (hexadecimal (R.at d)) d code b t (λ code b. refl) none more (λ code. more.hex d code);
          dec = λ d code. digits-more is_ascii_digit 10 (decimal (R.at d)) d code b t (λ code b. refl) none more (λ code. more.dec d code);
        }

    -- a text or a value without what stops it is read as the characters that it says
    pub read : (d t : List ℕ) → list_all (λ b. not (stops b)) t ≡ true → R.out d ++ tokens_from (R.at d) (t ++ r) ≡ R.out (d ++ unescaped v t) ++ tokens_from (R.at (d ++ unescaped v t)) r
    read d t h = (all t h).main d
