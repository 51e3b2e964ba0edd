-- Where a text is cut before a byte that ends each reference, each part says its characters by itself.
use Rattle.std.proofs.Common.{◌≡◌, ℕ, zero, suc, ◌+◌, ◌*◌, ◌≤◌, Bool, false, ◌==◌, List, [], ◌∷◌, ◌++◌, length, Option, Some, None, inl, inr, refl, ap, ap₂, sym, ◌∙◌, subst, arith, append_assoc, append-nil, option_map, if◌then◌else◌}
use Rattle.std.specs.Prelude.{⊤}
use Rattle.std.specs.Char.{is_ascii_alphanumeric, is_ascii_digit, is_ascii_hexdigit, to_ascii_lowercase}
use Rattle.std.proofs.lemmas.Bool.{cases_Bool, cond_both}
use Rattle.tl_html_spec.specs.HtmlTokenizer.{digit_value}
use Rattle.tl_html_spec.specs.References.{Reference, begins_with, goes_on, named_reference, number_value}
use Rattle.tl_html_spec.specs.Unescaped.{number, number_from, numeric_reference, one_before, or_itself, reference, unescaped, unescaped_after, unescaped_text}
use Rattle.tl_html_spec.proofs.Ahead.{Alike, IsWithin, is_name_byte, named-same, named-within}
use Rattle.tl_html_spec.proofs.Looked.{byte-plain, letters-alike}
use Rattle.tl_html_spec.proofs.Resolved.{IsEnd}
use Rattle.tl_html_spec.proofs.Texts.{less_than-IsEnd}

abbrev IsShort : Option Reference → ℕ → Type 0
IsShort None n = ⊤
IsShort (Some r) n = r.takes ≤ n

short_within : (o : Option Reference) (u : List ℕ) → IsWithin o u → IsShort o (length u)
short_within None u h = tt
short_within (Some r) u h = h r refl

short_more : (o : Option Reference) (n : ℕ) → IsShort o n → IsShort (option_map one_before o) (suc n)
short_more None n h = tt
short_more (Some r) n h = omega arith

short_takes : (o : Option Reference) (n : ℕ) → IsShort o n → (or_itself o).takes ≤ n
short_takes None n h = omega arith
short_takes (Some r) n h = h

module _ (q : ℕ) (end : IsEnd q) (y : List ℕ) where
  -- numbers

  number_same : (is_digit : ℕ → Bool) (base code : ℕ) (t : List ℕ) → is_digit q ≡ false → number_from is_digit base code (t ++ q ∷ y) ≡ number_from is_digit base code t
  number_same is_digit base code [] h = rw (h, end.semicolon) refl
  number_same is_digit base code (b ∷ t) h =
      ap (λ (r : Reference). let o : Reference = if is_digit b then one_before r else record { gives = number_value code; takes = if b == 59 then 1 else 0 } in o)
      (number_same is_digit base (code * base + digit_value b) t h)

  number_short : (is_digit : ℕ → Bool) (base code : ℕ) (t : List ℕ) → (number_from is_digit base code t).takes ≤ length t
  number_short is_digit base code [] = omega arith
  number_short is_digit base code (b ∷ t) =
      let more = number_short is_digit base (code * base + digit_value b) t in
      cond_both (is_digit b) _ _ (λ (r : Reference). r.takes ≤ suc (length t)) (λ _. omega arith)
      (λ _. cond_both (b == 59) _ _ (λ (n : ℕ). n ≤ suc (length t)) (λ _. omega arith) (λ _. omega arith))

  begins_same : (test : ℕ → Bool) (t : List ℕ) → test q ≡ false → begins_with test (t ++ q ∷ y) ≡ begins_with test t
  begins_same test [] h = h
  begins_same test (b ∷ t) h = refl

  digits_same : (is_digit : ℕ → Bool) (base : ℕ) (t : List ℕ) → is_digit q ≡ false → number is_digit base (t ++ q ∷ y) ≡ number is_digit base t
  digits_same is_digit base t h =
      ap₂ (λ (v : Bool) (r : Reference). let o : Option Reference = if v then Some r else None in o) (begins_same is_digit t h) (number_same is_digit base 0 t h)

  digits_short : (is_digit : ℕ → Bool) (base : ℕ) (t : List ℕ) → IsShort (number is_digit base t) (length t)
  digits_short is_digit base t =
      cond_both (begins_with is_digit t) _ _ (λ (o : Option Reference). IsShort o (length t)) (λ _. number_short is_digit base 0 t) (λ _. tt)

  numeric_same : (t : List ℕ) → numeric_reference (t ++ q ∷ y) ≡ numeric_reference t
  numeric_same [] = rw (end.x, end.digit) refl
  numeric_same (b ∷ t) =
      ap₂ (λ (x o : Option Reference). let p : Option Reference = if to_ascii_lowercase b == 120 then option_map one_before x else o in p)
      (digits_same is_ascii_hexdigit 16 t end.hexdigit) (digits_same is_ascii_digit 10 (b ∷ t) end.digit)

  numeric_short : (t : List ℕ) → IsShort (numeric_reference t) (length t)
  numeric_short [] = tt
  numeric_short (b ∷ t) =
      cond_both (to_ascii_lowercase b == 120) _ _ (λ (o : Option Reference). IsShort o (suc (length t)))
      (λ _. short_more (number is_ascii_hexdigit 16 t) (length t) (digits_short is_ascii_hexdigit 16 t)) (λ _. digits_short is_ascii_digit 10 (b ∷ t))

  -- names

  no_name : begins_with is_name_byte (q ∷ y) ≡ false
  no_name = rw (end.alphanumeric, end.semicolon) refl

  no_more : begins_with goes_on (q ∷ y) ≡ false
  no_more = rw (end.equals, end.alphanumeric) refl

  alike : (c : ℕ) (t : List ℕ) → Alike (c ∷ t) (q ∷ y) []
  alike c t = letters-alike (c ∷ t) (q ∷ y) [] no_name refl no_more

  named_is : (v : Bool) (c : ℕ) (t : List ℕ) → named_reference v ((c ∷ t) ++ q ∷ y) ≡ named_reference v (c ∷ t)
  named_is v c t = named-same v c t (q ∷ y) [] (alike c t) ∙ ap (λ s. named_reference v (c ∷ s)) (append-nil t)

  named_short : (v : Bool) (c : ℕ) (t : List ℕ) → IsShort (named_reference v (c ∷ t)) (length (c ∷ t))
  named_short v c t =
      subst (λ (o : Option Reference). IsShort o (length (c ∷ t))) (named_is v c t)
      (short_within (named_reference v ((c ∷ t) ++ q ∷ y)) (c ∷ t) (named-within v c t (q ∷ y) [] (alike c t)))

  -- a reference

  reference_same : (v : Bool) (t : List ℕ) → reference v (t ++ q ∷ y) ≡ reference v t
  reference_same v [] = rw (end.alphanumeric, end.number_sign) refl
  reference_same v (c ∷ t) =
      ap₂ (λ (x o : Option Reference). let p : Option Reference = if is_ascii_alphanumeric c then x else if c == 35 then option_map one_before o else None in p)
      (named_is v c t) (numeric_same t)

  reference_short : (v : Bool) (t : List ℕ) → IsShort (reference v t) (length t)
  reference_short v [] = tt
  reference_short v (c ∷ t) =
      cond_both (is_ascii_alphanumeric c) _ _ (λ (o : Option Reference). IsShort o (suc (length t))) (λ _. named_short v c t)
      (λ _. cond_both (c == 35) _ _ (λ (o : Option Reference). IsShort o (suc (length t))) (λ _. short_more (numeric_reference t) (length t) (numeric_short t)) (λ _. tt))

  -- a text

  abbrev one : Bool → ℕ → List ℕ → Option Reference → Bool → List ℕ
  one v b s o x = if x then (or_itself o).gives ++ unescaped_after v (or_itself o).takes s else b ∷ unescaped_after v 0 s

  cut_after : (v : Bool) (n : ℕ) (t : List ℕ) → n ≤ length t → unescaped_after v n (t ++ q ∷ y) ≡ unescaped_after v n t ++ unescaped v (q ∷ y)
  cut_after v zero [] h = refl
  cut_after v (suc n) [] h = absurd (omega arith)
  cut_after v (suc n) (b ∷ t) h = cut_after v n t (omega arith)
  cut_after v zero (b ∷ t) h = elim (cases_Bool (b == 38)) [
    | inl x ↦
        let o : Option Reference = reference v t in
        ap₂ (λ (p : Option Reference) z. one v b (t ++ q ∷ y) p z) (reference_same v t) x
        ∙ ap (λ s. (or_itself o).gives ++ s) (cut_after v (or_itself o).takes t (short_takes o (length t) (reference_short v t)))
        ∙ sym (append_assoc (or_itself o).gives (unescaped_after v (or_itself o).takes t) (unescaped v (q ∷ y)))
        ∙ sym (ap (λ z. one v b t o z ++ unescaped v (q ∷ y)) x)
    | inr x ↦
        ap (one v b (t ++ q ∷ y) (reference v (t ++ q ∷ y))) x
        ∙ ap (λ s. b ∷ s) (cut_after v 0 t (omega arith))
        ∙ sym (ap (λ z. one v b t (reference v t) z ++ unescaped v (q ∷ y)) x)
  ]

  pub unescaped_cut : (v : Bool) (t : List ℕ) → unescaped v (t ++ q ∷ y) ≡ unescaped v t ++ unescaped v (q ∷ y)
  unescaped_cut v t = cut_after v 0 t (omega arith)

pub replacement-IsEnd : IsEnd 0xEF
replacement-IsEnd = record { alphanumeric = refl; hexdigit = refl; digit = refl; semicolon = refl; number_sign = refl; equals = refl; x = refl }

pub less_than_cut : (t y : List ℕ) → unescaped_text (t ++ 60 ∷ y) ≡ unescaped_text t ++ 60 ∷ unescaped_text y
less_than_cut t y = unescaped_cut 60 less_than-IsEnd y false t ∙ ap (λ s. unescaped_text t ++ s) (byte-plain false 60 y refl)

pub replacement_cut : (t y : List ℕ) → unescaped_text (t ++ 0xEF ∷ y) ≡ unescaped_text t ++ 0xEF ∷ unescaped_text y
replacement_cut t y = unescaped_cut 0xEF replacement-IsEnd y false t ∙ ap (λ s. unescaped_text t ++ s) (byte-plain false 0xEF y refl)
