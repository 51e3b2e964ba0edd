-- How the tokenizer of the standard reads what is printed.
use Rattle.std.proofs.Common.{Bool, List, None, Option, Some, [], ap, ap₂, append-nil, append_assoc, arith, codes, cond, false, if◌then◌else◌, inl, inr, map, nat_lt, not, refl, subst, sym, true, true≢false, ℕ, ◌&&◌, ◌+◌, ◌++◌, ◌==◌, ◌∙◌, ◌≡◌, ◌||◌, ◌∷◌, ◌⊎◌}
use Rattle.std.proofs.lemmas.Bool.{and_parts, cases_Bool, eqb-true, ne_eqb, not-true}
use Rattle.std.specs.Char.{is_ascii_alphabetic, to_ascii_lowercase}
use Rattle.std.specs.List.{list_all, list_any}
use Rattle.std.specs.Prelude.{flat_map}
use Rattle.std.specs.Str.{bytes_eq}
use Rattle.tl_dom_spec.specs.HtmlForest.{HtmlForest, comment, doctype, element, has_contents, no_trees, text}
use Rattle.tl_dom_spec.specs.Lawful.{is_void}
use Rattle.tl_dom_spec.specs.Tags.{Attribute, Tag}
use Rattle.tl_html_print.proofs.Printing.{if-false, if-true}
use Rattle.tl_html_print.specs.ReadAgain.{AreReadable, CanBeReadAgain, HoldsItself, HoldsMarkup, IsReadAs, attribute_read, begins_key, end_tokens, is_in_doctype, is_in_key, is_in_name, is_kept, is_kept_in_value, is_key, is_name, lowered, tokens_of_trees, unless_empty}
use Rattle.tl_html_print.specs.Serialized.{end_tag, escape, escaped, is_literal, is_literal_in, parent_below, serialized, serialized_attribute, serialized_comment, serialized_doctype, serialized_name, serialized_text, start_tag, unless_void}
use Rattle.tl_html_spec.proofs.Fold.{after_append, emitted_append, tokens_append}
use Rattle.tl_html_spec.specs.HtmlTokenizer.{Character, CommentToken, DoctypeToken, EndTag, HtmlAttribute, HtmlToken, OpenTag, StartTag, State, Step, after_attribute_name, after_attribute_value, after_start, again_in, attribute_name, before_attribute_name, before_attribute_value, bogus_comment, data_state, doctype as doctype_state, double_quoted, emitting_again, end_tag_open, ends_name, is_white_space, markup_declaration_open, new_tag, replacement, self_closing_start_tag, settled, step, tag_name, tag_open, to, whole_step, with_attribute}
use Rattle.tl_html_spec.specs.HtmlTokenizer.{emitted as tag_emitted}
use Rattle.tl_html_spec.specs.Reader.{Reader, after, at, emitted, read, tokens_of}

-- a text goes from one state to another and emits these tokens, with nothing pending that it began
pub record Reads (from : State) (bytes : List ℕ) (tokens : List HtmlToken) (until : State) : Type 0 where
  pub tokens_are : emitted (at from) bytes ≡ tokens
  pub state_is : after (at from) bytes ≡ at until

pub then_reads : (r s t : State) (x y : List ℕ) (a b : List HtmlToken) → Reads r x a s → Reads s y b t → Reads r (x ++ y) (a ++ b) t
then_reads r s t x y a b h k = record {
  tokens_are = emitted_append (at r) x y ∙ ap₂ (λ (u : List HtmlToken) (q : Reader). u ++ emitted q y) h.tokens_are h.state_is ∙ ap (λ u. a ++ u) k.tokens_are;
  state_is = after_append (at r) x y ∙ ap (λ (q : Reader). after q y) h.state_is ∙ k.state_is;
}

-- the same where the first part emits nothing
pub quietly : (r s t : State) (x y : List ℕ) (b : List HtmlToken) → Reads r x [] s → Reads s y b t → Reads r (x ++ y) b t
quietly r s t x y b h k = then_reads r s t x y [] b h k

pub one : (s t : State) (b : ℕ) (ts : List HtmlToken) → (b == 13) ≡ false → whole_step s b ≡ record { next = t; emits = ts; again = false } → Reads s (b ∷ []) ts t
unfolding read
one s t b ts n e = record {
  tokens_are = ap (λ (v : Bool). (whole_step s (if v then 10 else b)).emits ++ []) n ∙ ap (λ (x : Step). x.emits ++ []) e ∙ append-nil ts;
  state_is = ap (λ (v : Bool). record { state = (whole_step s (if v then 10 else b)).next; after_return = v }) n ∙ ap (λ (x : Step). at x.next) e;
}

-- Texts

text-byte : (b : ℕ) → (b == 13) ≡ false → Reads data_state (escape false b) (Character b ∷ []) data_state
unfolding read
text-byte b n = elim (cases_Bool (b == 38)) [
  | inl y ↦ rw (eqb-true b 38 y) (record { tokens_are = refl; state_is = refl })
  | inr m ↦ elim (cases_Bool (b == 60)) [
    | inl y ↦ rw (eqb-true b 60 y) (record { tokens_are = refl; state_is = refl })
    | inr l ↦ elim (cases_Bool (b == 62)) [
      | inl y ↦ rw (eqb-true b 62 y) (record { tokens_are = refl; state_is = refl })
      | inr g ↦ record { tokens_are = simp (n, m, l, g); state_is = simp (n, m, l, g) }
    ]
  ]
]

space-read : Reads data_state (codes "&nbsp;") (Character 194 ∷ Character 160 ∷ []) data_state
unfolding read
space-read = record { tokens_are = refl; state_is = refl }

pub both-true : (a b : Bool) → a && b ≡ true → (a ≡ true) × (b ≡ true)
both-true a b e = and_parts a b e

text-read : (bytes : List ℕ) → list_all is_kept bytes ≡ true → Reads data_state (escaped false bytes) (map Character bytes) data_state
text-read [] h = record { tokens_are = refl; state_is = refl }
text-read (b ∷ []) h = text-byte b (not-true (b == 13) (and_parts (is_kept b) true h).0)
text-read (b ∷ c ∷ bytes) h =
    let p = and_parts (is_kept b) (list_all is_kept (c ∷ bytes)) h in
    let q = and_parts (is_kept c) (list_all is_kept bytes) p.1 in
    elim (cases_Bool (b == 194 && c == 160)) [
      | inl y ↦
          let two = both-true (b == 194) (c == 160) y in
          rw (eqb-true b 194 two.0, eqb-true c 160 two.1)
          (then_reads data_state data_state data_state (codes "&nbsp;") (escaped false bytes) (Character 194 ∷ Character 160 ∷ []) (map Character bytes) space-read (text-read bytes q.1))
      | inr n ↦
          let split = pick n in
          subst (λ x. Reads data_state x (map Character (b ∷ c ∷ bytes)) data_state) (sym split)
          (then_reads data_state data_state data_state (escape false b) (escaped false (c ∷ bytes)) (Character b ∷ []) (map Character (c ∷ bytes)) (text-byte b (not-true (b == 13) p.0)) (text-read (c ∷ bytes) p.1))
    ]
  where
    pick : (b == 194 && c == 160) ≡ false → escaped false (b ∷ c ∷ bytes) ≡ escape false b ++ escaped false (c ∷ bytes)
    pick n = ap (λ v. elim v as (λ _. List ℕ) [ true ↦ codes "&nbsp;" ++ escaped false bytes | false ↦ escape false b ++ escaped false (c ∷ bytes) ]) n

-- Values

pub neither : (a b : Bool) → not (a || b) ≡ true → (a ≡ false) × (b ≡ false)
neither true b e = cc
neither false true e = cc
neither false false e = (refl, refl)

value-byte : (tag : OpenTag) (key value : List ℕ) (b : ℕ) → is_kept_in_value b ≡ true → Reads (double_quoted tag key value) (escape true b) [] (double_quoted tag key (value ++ b ∷ []))
unfolding read
value-byte tag key value b h =
    let n = (neither (b == 13) (b == 0) h).0 in
    let z = (neither (b == 13) (b == 0) h).1 in
    elim (cases_Bool (b == 38)) [
      | inl y ↦ rw (eqb-true b 38 y) (record { tokens_are = refl; state_is = refl })
      | inr m ↦ elim (cases_Bool (b == 60)) [
        | inl y ↦ rw (eqb-true b 60 y) (record { tokens_are = refl; state_is = refl })
        | inr l ↦ elim (cases_Bool (b == 62)) [
          | inl y ↦ rw (eqb-true b 62 y) (record { tokens_are = refl; state_is = refl })
          | inr g ↦ elim (cases_Bool (b == 34)) [
            | inl y ↦ rw (eqb-true b 34 y) (record { tokens_are = refl; state_is = refl })
            | inr q ↦ record { tokens_are = simp (n, m, l, g, q); state_is = simp (n, m, l, g, q, z) }
          ]
        ]
      ]
    ]

value-space : (tag : OpenTag) (key value : List ℕ) → Reads (double_quoted tag key value) (codes "&nbsp;") [] (double_quoted tag key (value ++ 194 ∷ 160 ∷ []))
unfolding read
value-space tag key value = record { tokens_are = refl; state_is = refl }

value-read : (tag : OpenTag) (key value more : List ℕ) → list_all is_kept_in_value more ≡ true → Reads (double_quoted tag key value) (escaped true more) [] (double_quoted tag key (value ++ more))
value-read tag key value [] h = record { tokens_are = refl; state_is = ap (λ v. at (double_quoted tag key v)) (sym (append-nil value)) }
value-read tag key value (b ∷ []) h = value-byte tag key value b (and_parts (is_kept_in_value b) true h).0
value-read tag key value (b ∷ c ∷ more) h =
    let p = and_parts (is_kept_in_value b) (list_all is_kept_in_value (c ∷ more)) h in
    let q = and_parts (is_kept_in_value c) (list_all is_kept_in_value more) p.1 in
    let state = λ (v : List ℕ). double_quoted tag key v in
    elim (cases_Bool (b == 194 && c == 160)) [
      | inl y ↦
          let two = both-true (b == 194) (c == 160) y in
          rw (eqb-true b 194 two.0, eqb-true c 160 two.1)
          (subst (λ v. Reads (state value) (codes "&nbsp;" ++ escaped true more) [] (state v)) (append_assoc value (194 ∷ 160 ∷ []) more)
          (quietly (state value) (state (value ++ 194 ∷ 160 ∷ [])) (state ((value ++ 194 ∷ 160 ∷ []) ++ more)) (codes "&nbsp;") (escaped true more) [] (value-space tag key value) (value-read tag key (value ++ 194 ∷ 160 ∷ []) more q.1)))
      | inr n ↦
          let split = pick n in
          subst (λ x. Reads (state value) x [] (state (value ++ b ∷ c ∷ more))) (sym split)
          (subst (λ v. Reads (state value) (escape true b ++ escaped true (c ∷ more)) [] (state v)) (append_assoc value (b ∷ []) (c ∷ more))
          (quietly (state value) (state (value ++ b ∷ [])) (state ((value ++ b ∷ []) ++ c ∷ more)) (escape true b) (escaped true (c ∷ more)) [] (value-byte tag key value b p.0) (value-read tag key (value ++ b ∷ []) (c ∷ more) p.1)))
    ]
  where
    pick : (b == 194 && c == 160) ≡ false → escaped true (b ∷ c ∷ more) ≡ escape true b ++ escaped true (c ∷ more)
    pick n = ap (λ v. elim v as (λ _. List ℕ) [ true ↦ codes "&nbsp;" ++ escaped true more | false ↦ escape true b ++ escaped true (c ∷ more) ]) n

-- Names

pub lower-nul : (b : ℕ) → (b == 0) ≡ false → (to_ascii_lowercase b == 0) ≡ false
lower-nul b z = here (nat_lt b 65) (nat_lt b 91)
  where
    here : (x y : Bool) → (cond x b (cond y (b + 32) b) == 0) ≡ false
    here true y = z
    here false true = ne_eqb (b + 32) 0 (λ e. omega (arith, e))
    here false false = z

pub neither-two : (a b : Bool) → (a || b) ≡ false → (a ≡ false) × (b ≡ false)
neither-two true b e = cc
neither-two false b e = (refl, e)

name_step : OpenTag → ℕ → Bool → Bool → Bool → Bool → Step
name_step tag b space solidus greater nul =
    if space then to (before_attribute_name tag)
    else if solidus then to (self_closing_start_tag tag)
    else if greater then tag_emitted tag false
    else to (tag_name (record tag { name = tag.name ++ (if nul then replacement else to_ascii_lowercase b ∷ []) }))

abbrev longer : OpenTag → List ℕ → OpenTag
longer tag more = record tag { name = tag.name ++ more }

name-step : (tag : OpenTag) (b : ℕ) → is_in_name b ≡ true → step (tag_name tag) b ≡ to (tag_name (longer tag (to_ascii_lowercase b ∷ [])))
unfolding name_step
name-step tag b h =
    let p = neither (ends_name b) (b == 13 || b == 0) h in
    let q = neither-two (is_white_space b || (b == 47)) (b == 62) p.0 in
    let r = neither-two (is_white_space b) (b == 47) q.0 in
    let z = lower-nul b (neither-two (b == 13) (b == 0) p.1).1 in
    ap (λ v. name_step tag b v (b == 47) (b == 62) (to_ascii_lowercase b == 0)) r.0
    ∙ ap (λ v. name_step tag b false v (b == 62) (to_ascii_lowercase b == 0)) r.1
    ∙ ap (λ v. name_step tag b false false v (to_ascii_lowercase b == 0)) q.1
    ∙ ap (λ v. name_step tag b false false false v) z

no-return : (b : ℕ) → is_in_name b ≡ true → (b == 13) ≡ false
no-return b h = (neither-two (b == 13) (b == 0) (neither (ends_name b) (b == 13 || b == 0) h).1).0

name-rest : (tag : OpenTag) (w : List ℕ) → list_all is_in_name w ≡ true → Reads (tag_name tag) w [] (tag_name (longer tag (lowered w)))
name-rest tag [] h = record { tokens_are = refl; state_is = ap (λ n. at (tag_name (record tag { name = n }))) (sym (append-nil tag.name)) }
name-rest tag (b ∷ w) h =
    let p = and_parts (is_in_name b) (list_all is_in_name w) h in
    let next = longer tag (to_ascii_lowercase b ∷ []) in
    subst (λ n. Reads (tag_name tag) (b ∷ w) [] (tag_name (record tag { name = n }))) (append_assoc tag.name (to_ascii_lowercase b ∷ []) (lowered w))
    (quietly (tag_name tag) (tag_name next) (tag_name (longer next (lowered w))) (b ∷ []) w []
    (one (tag_name tag) (tag_name next) b [] (no-return b p.0) (ap (λ (x : Step). settled 3 x b) (name-step tag b p.0)))
    (name-rest next w p.1))

no-letter : (b c : ℕ) → is_ascii_alphabetic b ≡ true → is_ascii_alphabetic c ≡ false → (b == c) ≡ false
no-letter b c h k = elim (cases_Bool (b == c)) [
  | inl y ↦ absurd (true≢false (sym h ∙ ap is_ascii_alphabetic (eqb-true b c y) ∙ k))
  | inr n ↦ n
]

open_step : ℕ → Bool → Bool → Bool → Step
open_step b exclamation solidus letter =
    if exclamation then to (markup_declaration_open [])
    else if solidus then to end_tag_open
    else if letter then again_in (tag_name (new_tag false))
    else if b == 63 then again_in (bogus_comment [])
    else emitting_again (codes "<") data_state

opens : (b : ℕ) → is_ascii_alphabetic b ≡ true → is_in_name b ≡ true → whole_step tag_open b ≡ to (tag_name (longer (new_tag false) (to_ascii_lowercase b ∷ [])))
unfolding open_step
opens b h k =
    ap (λ x. settled 3 (open_step b x (b == 47) (is_ascii_alphabetic b)) b) (no-letter b 33 h refl)
    ∙ ap (λ x. settled 3 (open_step b false x (is_ascii_alphabetic b)) b) (no-letter b 47 h refl)
    ∙ ap (λ x. settled 3 (open_step b false false x) b) h
    ∙ ap (λ (x : Step). settled 2 x b) (name-step (new_tag false) b k)

close_step : ℕ → Bool → Step
close_step b letter =
    if letter then again_in (tag_name (new_tag true))
    else if b == 62 then to data_state
    else again_in (bogus_comment [])

closes : (b : ℕ) → is_ascii_alphabetic b ≡ true → is_in_name b ≡ true → whole_step end_tag_open b ≡ to (tag_name (longer (new_tag true) (to_ascii_lowercase b ∷ [])))
unfolding close_step
closes b h k =
    ap (λ x. settled 3 (close_step b x) b) h
    ∙ ap (λ (x : Step). settled 2 x b) (name-step (new_tag true) b k)

name-read : (e : Bool) (s : State) → ((b : ℕ) → is_ascii_alphabetic b ≡ true → is_in_name b ≡ true → whole_step s b ≡ to (tag_name (longer (new_tag e) (to_ascii_lowercase b ∷ [])))) →
    (name : List ℕ) → is_name name ≡ true → Reads s name [] (tag_name (longer (new_tag e) (lowered name)))
name-read e s first [] h = absurd (true≢false (sym h))
name-read e s first (b ∷ name) h = elim (cases_Bool (is_ascii_alphabetic b)) [
  | inr n ↦ absurd (true≢false (sym h ∙ if-false (is_ascii_alphabetic b) (list_all is_in_name (b ∷ name)) false n))
  | inl y ↦
      let all = sym (if-true (is_ascii_alphabetic b) (list_all is_in_name (b ∷ name)) false y) ∙ h in
      let p = and_parts (is_in_name b) (list_all is_in_name name) all in
      let next = longer (new_tag e) (to_ascii_lowercase b ∷ []) in
      quietly s (tag_name next) (tag_name (longer (new_tag e) (lowered (b ∷ name)))) (b ∷ []) name []
      (one s (tag_name next) b [] (no-return b p.0) (first b y p.0))
      (name-rest next name p.1)
]

end-read : (name : List ℕ) → is_name name ≡ true → Reads data_state (codes "</" ++ (name ++ codes ">")) (EndTag (lowered name) ∷ []) data_state
unfolding read
end-read name h =
    let tag : OpenTag = longer (new_tag true) (lowered name) in
    quietly data_state end_tag_open data_state (codes "</") (name ++ codes ">") (EndTag (lowered name) ∷ []) (record { tokens_are = refl; state_is = refl })
    (quietly end_tag_open (tag_name tag) data_state name (codes ">") (EndTag (lowered name) ∷ []) (name-read true end_tag_open closes name h) (record { tokens_are = refl; state_is = refl }))

-- Keys

key_step : OpenTag → List ℕ → ℕ → Bool → Bool → Bool → Step
key_step tag key b ends equals nul =
    if ends then again_in (after_attribute_name tag key)
    else if equals then to (before_attribute_value tag key)
    else to (attribute_name tag (key ++ (if nul then replacement else to_ascii_lowercase b ∷ [])))

key-step : (tag : OpenTag) (key : List ℕ) (b : ℕ) → is_in_key b ≡ true → step (attribute_name tag key) b ≡ to (attribute_name tag (key ++ to_ascii_lowercase b ∷ []))
unfolding key_step
key-step tag key b h =
    let p = neither (ends_name b || b == 61) (b == 13 || b == 0) h in
    let q = neither-two (ends_name b) (b == 61) p.0 in
    let z = lower-nul b (neither-two (b == 13) (b == 0) p.1).1 in
    ap (λ v. key_step tag key b v (b == 61) (to_ascii_lowercase b == 0)) q.0
    ∙ ap (λ v. key_step tag key b false v (to_ascii_lowercase b == 0)) q.1
    ∙ ap (λ v. key_step tag key b false false v) z

key-return : (b : ℕ) → is_in_key b ≡ true → (b == 13) ≡ false
key-return b h = (neither-two (b == 13) (b == 0) (neither (ends_name b || b == 61) (b == 13 || b == 0) h).1).0

key-rest : (tag : OpenTag) (key w : List ℕ) → list_all is_in_key w ≡ true → Reads (attribute_name tag key) w [] (attribute_name tag (key ++ lowered w))
key-rest tag key [] h = record { tokens_are = refl; state_is = ap (λ n. at (attribute_name tag n)) (sym (append-nil key)) }
key-rest tag key (b ∷ w) h =
    let p = and_parts (is_in_key b) (list_all is_in_key w) h in
    let next = key ++ to_ascii_lowercase b ∷ [] in
    subst (λ n. Reads (attribute_name tag key) (b ∷ w) [] (attribute_name tag n)) (append_assoc key (to_ascii_lowercase b ∷ []) (lowered w))
    (quietly (attribute_name tag key) (attribute_name tag next) (attribute_name tag (next ++ lowered w)) (b ∷ []) w []
    (one (attribute_name tag key) (attribute_name tag next) b [] (key-return b p.0) (ap (λ (x : Step). settled 3 x b) (key-step tag key b p.0)))
    (key-rest tag next w p.1))

before_step : OpenTag → ℕ → Bool → Bool → Bool → Bool → Step
before_step tag b space solidus greater equals =
    if space then to (before_attribute_name tag)
    else if solidus then to (self_closing_start_tag tag)
    else if greater then tag_emitted tag false
    else if equals then to (attribute_name tag (b ∷ []))
    else again_in (attribute_name tag [])

begins-key : (tag : OpenTag) (b : ℕ) → is_in_key b ≡ true → whole_step (before_attribute_name tag) b ≡ to (attribute_name tag (to_ascii_lowercase b ∷ []))
unfolding before_step
begins-key tag b h =
    let p = neither (ends_name b || b == 61) (b == 13 || b == 0) h in
    let o = neither-two (ends_name b) (b == 61) p.0 in
    let q = neither-two (is_white_space b || (b == 47)) (b == 62) o.0 in
    let r = neither-two (is_white_space b) (b == 47) q.0 in
    ap (λ x. settled 3 (before_step tag b x (b == 47) (b == 62) (b == 61)) b) r.0
    ∙ ap (λ x. settled 3 (before_step tag b false x (b == 62) (b == 61)) b) r.1
    ∙ ap (λ x. settled 3 (before_step tag b false false x (b == 61)) b) q.1
    ∙ ap (λ x. settled 3 (before_step tag b false false false x) b) o.1
    ∙ ap (λ (x : Step). settled 2 x b) (key-step tag [] b h)

either-true : (a b : Bool) → (a || b) ≡ true → (a ≡ true) ⊎ (b ≡ true)
either-true true b h = inl refl
either-true false b h = inr h

first-key : (tag : OpenTag) (b : ℕ) → begins_key b ≡ true → Reads (before_attribute_name tag) (b ∷ []) [] (attribute_name tag (to_ascii_lowercase b ∷ []))
unfolding read
first-key tag b h = elim (either-true (is_in_key b) (b == 61) h) [
  | inl y ↦ one (before_attribute_name tag) (attribute_name tag (to_ascii_lowercase b ∷ [])) b [] (key-return b y) (begins-key tag b y)
  | inr y ↦ rw (eqb-true b 61 y) (record { tokens_are = refl; state_is = refl })
]

key-read : (tag : OpenTag) (key : List ℕ) → is_key key ≡ true → Reads (before_attribute_name tag) key [] (attribute_name tag (lowered key))
key-read tag [] h = absurd (true≢false (sym h))
key-read tag (b ∷ key) h =
    let p = and_parts (begins_key b) (list_all is_in_key key) h in
    quietly (before_attribute_name tag) (attribute_name tag (to_ascii_lowercase b ∷ [])) (attribute_name tag (lowered (b ∷ key))) (b ∷ []) key []
    (first-key tag b p.0)
    (key-rest tag (to_ascii_lowercase b ∷ []) key p.1)

-- Attributes

abbrev begun : List ℕ → List HtmlAttribute → OpenTag
begun name attributes = record { is_end = false; name = name; attributes = attributes }

value-begins : (tag : OpenTag) (key : List ℕ) → Reads (attribute_name tag key) (codes "=\"") [] (double_quoted tag key [])
unfolding read
value-begins tag key = record { tokens_are = refl; state_is = refl }

value-ends : (tag : OpenTag) (key value : List ℕ) → Reads (double_quoted tag key value) (codes "\"") [] (after_attribute_value (with_attribute tag key value))
unfolding read
value-ends tag key value = record { tokens_are = refl; state_is = refl }

attribute-read : (s : State) (tag : OpenTag) (a : Attribute) → Reads s (codes " ") [] (before_attribute_name tag) →
    is_key (serialized_name a.space a.key) ≡ true → list_all is_kept_in_value a.value ≡ true →
    Reads s (serialized_attribute a) [] (after_attribute_value (with_attribute tag (attribute_read a).0 a.value))
attribute-read s tag a blank k v =
    let name = serialized_name a.space a.key in
    let key = lowered name in
    let last = after_attribute_value (with_attribute tag key a.value) in
    quietly s (before_attribute_name tag) last (codes " ") (name ++ (codes "=\"" ++ (escaped true a.value ++ codes "\""))) [] blank
    (quietly (before_attribute_name tag) (attribute_name tag key) last name (codes "=\"" ++ (escaped true a.value ++ codes "\"")) [] (key-read tag name k)
    (quietly (attribute_name tag key) (double_quoted tag key []) last (codes "=\"") (escaped true a.value ++ codes "\"") [] (value-begins tag key)
    (quietly (double_quoted tag key []) (double_quoted tag key a.value) last (escaped true a.value) (codes "\"") [] (value-read tag key [] a.value v) (value-ends tag key a.value))))

after-blank : (tag : OpenTag) → Reads (after_attribute_value tag) (codes " ") [] (before_attribute_name tag)
unfolding read
after-blank tag = record { tokens_are = refl; state_is = refl }

after-end : (name : List ℕ) (attributes : List HtmlAttribute) → Reads (after_attribute_value (begun name attributes)) (codes ">") (StartTag name attributes false ∷ []) (after_start name)
unfolding read
after-end name attributes = record { tokens_are = refl; state_is = refl }

attributes-read : (s : State) (name : List ℕ) (before : List HtmlAttribute) (attributes : List Attribute) →
    Reads s (codes " ") [] (before_attribute_name (begun name before)) → Reads s (codes ">") (StartTag name before false ∷ []) (after_start name) → AreReadable before attributes →
    Reads s (flat_map serialized_attribute attributes ++ codes ">") (StartTag name (before ++ map attribute_read attributes) false ∷ []) (after_start name)
attributes-read s name before [] blank end h = subst (λ x. Reads s (codes ">") (StartTag name x false ∷ []) (after_start name)) (sym (append-nil before)) end
attributes-read s name before (a ∷ attributes) blank end h =
    let own = attribute_read a in
    let tag = begun name before in
    let next = begun name (before ++ own ∷ []) in
    let state = after_attribute_value next in
    let put : with_attribute tag own.0 a.value ≡ next = if-false (list_any (λ (b : HtmlAttribute). bytes_eq b.0 own.0) before) tag next h.2 in
    let first = subst (λ (t : OpenTag). Reads s (serialized_attribute a) [] (after_attribute_value t)) put (attribute-read s tag a blank h.0 h.1) in
    let later = attributes-read state name (before ++ own ∷ []) attributes (after-blank next) (after-end name (before ++ own ∷ [])) h.3 in
    subst (λ x. Reads s x (StartTag name (before ++ map attribute_read (a ∷ attributes)) false ∷ []) (after_start name)) (sym (append_assoc (serialized_attribute a) (flat_map serialized_attribute attributes) (codes ">")))
    (subst (λ xs. Reads s (serialized_attribute a ++ (flat_map serialized_attribute attributes ++ codes ">")) (StartTag name xs false ∷ []) (after_start name)) (append_assoc before (own ∷ []) (map attribute_read attributes))
    (quietly s state (after_start name) (serialized_attribute a) (flat_map serialized_attribute attributes ++ codes ">") (StartTag name ((before ++ own ∷ []) ++ map attribute_read attributes) false ∷ []) first later))

name-blank : (tag : OpenTag) → Reads (tag_name tag) (codes " ") [] (before_attribute_name tag)
unfolding read
name-blank tag = record { tokens_are = refl; state_is = refl }

name-end : (name : List ℕ) → Reads (tag_name (begun name [])) (codes ">") (StartTag name [] false ∷ []) (after_start name)
unfolding read
name-end name = record { tokens_are = refl; state_is = refl }

opening : Reads data_state (codes "<") [] tag_open
unfolding read
opening = record { tokens_are = refl; state_is = refl }

start-read : (tag : Tag) → is_name tag.name ≡ true → AreReadable [] tag.attributes → Reads data_state (start_tag tag) (StartTag (lowered tag.name) (map attribute_read tag.attributes) false ∷ []) (after_start (lowered tag.name))
start-read tag n a =
    let name = lowered tag.name in
    let tokens = StartTag name (map attribute_read tag.attributes) false ∷ [] in
    let rest = flat_map serialized_attribute tag.attributes ++ codes ">" in
    quietly data_state tag_open (after_start name) (codes "<") (tag.name ++ rest) tokens opening
    (quietly tag_open (tag_name (begun name [])) (after_start name) tag.name rest tokens (name-read false tag_open opens tag.name n)
    (attributes-read (tag_name (begun name [])) name [] tag.attributes (name-blank (begun name [])) (name-end name) a))

-- Doctypes

doctype_step : Bool → Step
doctype_step ends = if ends then record { next = data_state; emits = DoctypeToken ∷ []; again = false } else to doctype_state

doctype-rest : (name : List ℕ) → list_all is_in_doctype name ≡ true → Reads doctype_state (name ++ codes ">") (DoctypeToken ∷ []) data_state
unfolding read doctype_step
doctype-rest [] h = record { tokens_are = refl; state_is = refl }
doctype-rest (b ∷ name) h =
    let p = and_parts (is_in_doctype b) (list_all is_in_doctype name) h in
    let q = neither (b == 62) (b == 13) p.0 in
    quietly doctype_state doctype_state data_state (b ∷ []) (name ++ codes ">") (DoctypeToken ∷ [])
    (one doctype_state doctype_state b [] q.1 (ap (λ v. settled 3 (doctype_step v) b) q.0))
    (doctype-rest name p.1)

doctype-begins : Reads data_state (codes "<!DOCTYPE ") [] doctype_state
unfolding read
doctype-begins = record { tokens_are = refl; state_is = refl }

doctype-read : (name : List ℕ) → list_all is_in_doctype name ≡ true → Reads data_state (serialized_doctype name) (DoctypeToken ∷ []) data_state
doctype-read name h = quietly data_state doctype_state data_state (codes "<!DOCTYPE ") (name ++ codes ">") (DoctypeToken ∷ []) doctype-begins (doctype-rest name h)

-- Trees

nothing-read : (s : State) → Reads s [] [] s
nothing-read s = record { tokens_are = refl; state_is = refl }

as-reads : (s : State) (bytes : List ℕ) (tokens : List HtmlToken) → IsReadAs s bytes tokens → Reads s bytes tokens data_state
as-reads s bytes tokens h = record { tokens_are = h.0; state_is = h.1 }

below-escaped : (b : Bool) (tag : Tag) → is_literal false tag ≡ false → is_literal_in false (if b then None else Some tag) ≡ false
below-escaped true tag h = refl
below-escaped false tag h = h

unless-read : (void : Bool) (bytes : List ℕ) (tokens : List HtmlToken) → Reads data_state bytes tokens data_state → Reads data_state (if void then [] else bytes) (if void then [] else tokens) data_state
unless-read true bytes tokens h = nothing-read data_state
unless-read false bytes tokens h = h

abbrev pub InsideReads : Tag → HtmlForest → Type 0
InsideReads tag below =
    Reads (after_start (lowered tag.name)) (unless_void tag (serialized false (parent_below tag) below) ++ end_tag tag) (unless_empty tag (tokens_of_trees below) ++ end_tokens tag) data_state

-- what is in an element, up to its end tag
inside-read : (tag : Tag) (below : HtmlForest) → is_name tag.name ≡ true → (is_literal_in false (parent_below tag) ≡ false → CanBeReadAgain below → Reads data_state (serialized false (parent_below tag) below) (tokens_of_trees below) data_state) →
    (HoldsMarkup tag × CanBeReadAgain below) ⊎ HoldsItself tag below → InsideReads tag below
inside-read tag below n reads (inl markup) =
    let inner = unless_void tag (serialized false (parent_below tag) below) in
    let tokens = unless_empty tag (tokens_of_trees below) in
    subst (λ (s : State). Reads s (inner ++ end_tag tag) (tokens ++ end_tokens tag) data_state) (sym markup.0.0)
    (then_reads data_state data_state data_state inner (end_tag tag) tokens (end_tokens tag)
    (unless-read (is_void tag) (serialized false (parent_below tag) below) (tokens_of_trees below) (reads (below-escaped (has_contents tag) tag markup.0.1) markup.1))
    (unless-read (is_void tag) (codes "</" ++ (tag.name ++ codes ">")) (EndTag (lowered tag.name) ∷ []) (end-read tag.name n)))
inside-read tag below n reads (inr itself) =
    as-reads (after_start (lowered tag.name)) (unless_void tag (serialized false (parent_below tag) below) ++ end_tag tag) (unless_empty tag (tokens_of_trees below) ++ end_tokens tag) itself

trees-read : (f : HtmlForest) (parent : Option Tag) → is_literal_in false parent ≡ false → CanBeReadAgain f → Reads data_state (serialized false parent f) (tokens_of_trees f) data_state
trees-read no_trees parent e h = nothing-read data_state
trees-read (text own more) parent e h =
    let bytes = own.said in
    let read = text-read bytes h.0 in
    then_reads data_state data_state data_state (serialized_text false parent bytes) (serialized false parent more) (map Character bytes) (tokens_of_trees more)
    (subst (λ x. Reads data_state x (map Character bytes) data_state) (sym (if-false (is_literal_in false parent) bytes (escaped false bytes) e)) read)
    (trees-read more parent e h.1)
trees-read (comment own more) parent e h =
    then_reads data_state data_state data_state (serialized_comment own.said) (serialized false parent more) (CommentToken own.said ∷ []) (tokens_of_trees more)
    (as-reads data_state (serialized_comment own.said) (CommentToken own.said ∷ []) h.0)
    (trees-read more parent e h.1)
trees-read (doctype own more) parent e h =
    then_reads data_state data_state data_state (serialized_doctype own.said.name) (serialized false parent more) (DoctypeToken ∷ []) (tokens_of_trees more)
    (doctype-read own.said.name h.0)
    (trees-read more parent e h.1)
trees-read (element tag below more) parent e h =
    let name = lowered tag.name in
    let inner = unless_void tag (serialized false (parent_below tag) below) in
    let tokens = unless_empty tag (tokens_of_trees below) in
    let start = start-read tag h.0.0 h.0.1 in
    let later = trees-read more parent e h.2 in
    let own = inside-read tag below h.0.0 (λ e c. trees-read below (parent_below tag) e c) h.1 in
    subst (λ x. Reads data_state (start_tag tag ++ x) (tokens_of_trees (element tag below more)) data_state) (append_assoc inner (end_tag tag) (serialized false parent more))
    (subst (λ (x : List HtmlToken). Reads data_state (start_tag tag ++ ((inner ++ end_tag tag) ++ serialized false parent more)) (StartTag name (map attribute_read tag.attributes) false ∷ x) data_state) (append_assoc tokens (end_tokens tag) (tokens_of_trees more))
    (then_reads data_state (after_start name) data_state (start_tag tag) ((inner ++ end_tag tag) ++ serialized false parent more) (StartTag name (map attribute_read tag.attributes) false ∷ []) ((tokens ++ end_tokens tag) ++ tokens_of_trees more) start
    (then_reads (after_start name) data_state data_state (inner ++ end_tag tag) (serialized false parent more) (tokens ++ end_tokens tag) (tokens_of_trees more) own later)))

pub inner_read : (tag : Tag) (below more : HtmlForest) → CanBeReadAgain (element tag below more) → InsideReads tag below
inner_read tag below more h = inside-read tag below h.0.0 (λ e c. trees-read below (parent_below tag) e c) h.1

pub tree_read : (tree : HtmlForest) (parent : Option Tag) (rest : List ℕ) → is_literal_in false parent ≡ false → CanBeReadAgain tree → tokens_of (at data_state) (serialized false parent tree ++ rest) ≡ tokens_of_trees tree ++ tokens_of (at data_state) rest
tree_read tree parent rest e h =
    let all = trees-read tree parent e h in
    tokens_append (at data_state) (serialized false parent tree) rest
    ∙ ap₂ (λ (ts : List HtmlToken) (r : Reader). ts ++ tokens_of r rest) all.tokens_are all.state_is

pub print_read : (trees : HtmlForest) (rest : List ℕ) → CanBeReadAgain trees → tokens_of (at data_state) (serialized false None trees ++ rest) ≡ tokens_of_trees trees ++ tokens_of (at data_state) rest
print_read trees rest h = tree_read trees None rest refl h
