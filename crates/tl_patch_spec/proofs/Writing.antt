-- Written texts and values are read back, and leave nothing pending.
use Rattle.std.proofs.Common.{◌≡◌, ℕ, true, false, not, ◌==◌, List, [], ◌∷◌, ◌++◌, map, Some, codes, refl, ap, ap₂, sym, ◌∙◌, inl, inr, append_assoc, append-nil}
use Rattle.std.specs.Prelude.{option_map}
use Rattle.std.specs.Char.{encode_utf8}
use Rattle.std.proofs.lemmas.Bool.{and_parts, cases_Bool, eqb-true, not-true}
use Rattle.tl_html_spec.specs.HtmlTokenizer.{Character, HtmlToken, OpenTag, State, after_attribute_value, before_attribute_value, data_state, double_quoted, with_attribute}
use Rattle.tl_html_spec.specs.Reader.{Reader, Rest, after, at, emitted, emitting_before, read, rest_before, resting}
use Rattle.tl_html_spec.specs.Pieces.{read_before}
use Rattle.tl_patch_spec.specs.Markup.{is_without_nul, separator, quoted_value, text_byte_markup, value_byte_markup, text_markup, value_markup}
use Rattle.tl_html_spec.proofs.Fold.{after_append, emitted_append}
use Rattle.tl_html_spec.proofs.Resting.{after_rest, emitted_rest, strict_rest}

-- a text goes from one state to another and emits these tokens, with nothing pending that it began
pub record Reads (from : State) (text : List ℕ) (tokens : List HtmlToken) (until : State) : Type 0 where
  pub tokens_are : emitted (at from) text ≡ tokens
  pub state_is : after (at from) text ≡ at until

pub then_reads : (r s t : State) (x y : List ℕ) (a b : List HtmlToken) → Reads r x a s → Reads s y b t → Reads r (x ++ y) (a ++ b) t
then_reads r s t x y a b h k = record {
  tokens_are = emitted_append (at r) x y ∙ ap₂ (λ (u : List HtmlToken) (q : Reader). u ++ emitted q y) h.tokens_are h.state_is ∙ ap (λ u. a ++ u) k.tokens_are;
  state_is = after_append (at r) x y ∙ ap (λ (q : Reader). after q y) h.state_is ∙ k.state_is;
}

text_byte_reads : (b : ℕ) → Reads data_state (text_byte_markup b) (Character b ∷ []) data_state
unfolding read encode_utf8
text_byte_reads b = elim (cases_Bool (b == 13)) [
  | inl y ↦ rw (eqb-true b 13 y) (record { tokens_are = refl; state_is = refl })
  | inr n ↦ elim (cases_Bool (b == 38)) [
    | inl y ↦ rw (eqb-true b 38 y) (record { tokens_are = refl; state_is = refl })
    | inr m ↦ elim (cases_Bool (b == 60)) [
      | inl y ↦ rw (eqb-true b 60 y) (record { tokens_are = refl; state_is = refl })
      | inr l ↦ record { tokens_are = simp (n, m, l); state_is = simp (n, m, l) }
    ]
  ]
]

pub text_reads : (text : List ℕ) → Reads data_state (text_markup text) (map Character text) data_state
text_reads [] = record { tokens_are = refl; state_is = refl }
text_reads (b ∷ text) = then_reads data_state data_state data_state (text_byte_markup b) (text_markup text) (Character b ∷ []) (map Character text) (text_byte_reads b) (text_reads text)

abbrev with_emits : State → List HtmlToken → Rest
with_emits state tokens = record { state = state; emits = tokens }

-- a text that ends in a state of rest is read apart from whatever follows it
pub closed_before : (s t : State) (x : List ℕ) (ts : List HtmlToken) (b : ℕ) → Reads s x ts t → rest_before (at t) b ≡ Some (resting t) →
    read_before s x (Some b) ≡ Some (record { state = t; emits = ts })
closed_before s t x ts b h e =
    ap₂ (λ (us : List HtmlToken) (q : Reader). option_map (emitting_before us) (rest_before q b)) h.tokens_are h.state_is
    ∙ ap (option_map (emitting_before ts)) e
    ∙ ap (λ (us : List HtmlToken). Some (with_emits t us)) (append-nil ts)

pub text_closed : (text : List ℕ) (b : ℕ) → read_before data_state (text_markup text) (Some b) ≡ Some (record { state = data_state; emits = map Character text })
text_closed text b = closed_before data_state data_state (text_markup text) (map Character text) b (text_reads text) (strict_rest data_state b refl)

-- values

value_byte_reads : (tag : OpenTag) (key value : List ℕ) (b : ℕ) → (b == 0) ≡ false →
    Reads (double_quoted tag key value) (value_byte_markup b) [] (double_quoted tag key (value ++ b ∷ []))
unfolding read encode_utf8
value_byte_reads tag key value b z = elim (cases_Bool (b == 13)) [
  | inl y ↦ rw (eqb-true b 13 y) (record { tokens_are = refl; state_is = refl })
  | inr n ↦ elim (cases_Bool (b == 38)) [
    | inl y ↦ rw (eqb-true b 38 y) (record { tokens_are = refl; state_is = refl })
    | inr m ↦ elim (cases_Bool (b == 34)) [
      | inl y ↦ rw (eqb-true b 34 y) (record { tokens_are = refl; state_is = refl })
      | inr l ↦ elim (cases_Bool (b == 60)) [
        | inl y ↦ rw (eqb-true b 60 y) (record { tokens_are = refl; state_is = refl })
        | inr o ↦ elim (cases_Bool (b == 62)) [
          | inl y ↦ rw (eqb-true b 62 y) (record { tokens_are = refl; state_is = refl })
          | inr p ↦ record { tokens_are = simp (n, m, l, o, p); state_is = simp (n, m, l, o, p, z) }
        ]
      ]
    ]
  ]
]

value_reads : (tag : OpenTag) (key value more : List ℕ) → is_without_nul more ≡ true →
    Reads (double_quoted tag key value) (value_markup more) [] (double_quoted tag key (value ++ more))
value_reads tag key value [] h = record { tokens_are = refl; state_is = ap (λ v. at (double_quoted tag key v)) (sym (append-nil value)) }
value_reads tag key value (b ∷ more) h =
    let p = and_parts (not (b == 0)) (is_without_nul more) h in
    let both = then_reads (double_quoted tag key value) (double_quoted tag key (value ++ b ∷ [])) (double_quoted tag key ((value ++ b ∷ []) ++ more))
    (value_byte_markup b) (value_markup more) [] [] (value_byte_reads tag key value b (not-true (b == 0) p.0)) (value_reads tag key (value ++ b ∷ []) more p.1) in
    record { tokens_are = both.tokens_are; state_is = both.state_is ∙ ap (λ v. at (double_quoted tag key v)) (append_assoc value (b ∷ []) more) }

quote_begins : (tag : OpenTag) (key : List ℕ) → Reads (before_attribute_value tag key) (34 ∷ []) [] (double_quoted tag key [])
unfolding read
quote_begins tag key = record { tokens_are = refl; state_is = refl }

quote_ends : (tag : OpenTag) (key value : List ℕ) → Reads (double_quoted tag key value) (34 ∷ []) [] (after_attribute_value (with_attribute tag key value))
unfolding read
quote_ends tag key value = record { tokens_are = refl; state_is = refl }

-- after a key and its `=`, a value in quotes gives the tag that value, and nothing else
pub quoted_value_reads : (tag : OpenTag) (key value : List ℕ) → is_without_nul value ≡ true →
    Reads (before_attribute_value tag key) (quoted_value value) [] (after_attribute_value (with_attribute tag key value))
quoted_value_reads tag key value h =
    then_reads (before_attribute_value tag key) (double_quoted tag key []) (after_attribute_value (with_attribute tag key value)) (34 ∷ []) (value_markup value ++ 34 ∷ []) [] []
    (quote_begins tag key)
    (then_reads (double_quoted tag key []) (double_quoted tag key value) (after_attribute_value (with_attribute tag key value)) (value_markup value) (34 ∷ []) [] []
    (value_reads tag key [] value h) (quote_ends tag key value))

-- the separator

pub separator_reads : (r : Reader) (tokens : List HtmlToken) → rest_before r 60 ≡ Some (record { state = data_state; emits = tokens }) →
    (emitted r separator ≡ tokens) × (after r separator ≡ at data_state)
unfolding read
separator_reads r tokens e =
    let q : Rest = record { state = data_state; emits = tokens } in
    (emitted_rest r 60 (codes "/>") q e ∙ append-nil tokens, after_rest r 60 (codes "/>") q e)

pub value_closed : (tag : OpenTag) (key value : List ℕ) → is_without_nul value ≡ true →
    after (at (before_attribute_value tag key)) (quoted_value value) ≡ at (after_attribute_value (with_attribute tag key value))
value_closed tag key value h = (quoted_value_reads tag key value h).state_is

pub separator_closed : (r : Reader) (tokens : List HtmlToken) → rest_before r 60 ≡ Some (record { state = data_state; emits = tokens }) →
    after r separator ≡ at data_state
separator_closed r tokens e = (separator_reads r tokens e).1
