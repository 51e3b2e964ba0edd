-- Whatever stands after the name of a tag is read as some attributes.
use Rattle.std.proofs.Common.{◌≡◌, ◌≤◌, ◌<◌, ℕ, zero, suc, ◌+◌, ◌-◌, Bool, true, false, List, [], ◌∷◌, length, length-drop, take, drop, refl, ap, sym, ◌∙◌, arith, inl, inr}
use Rattle.std.specs.List.{prefix_len}
use Rattle.std.proofs.lemmas.Bool.{cases_Bool}
use Rattle.tl_spec.specs.Lex.Grammar.{IsRun, Stops}
use Rattle.tl_spec.specs.Lex.Runs.{drop_while}
use Rattle.tl_spec.proofs.Lex.Bytes.{drop-le, drop_while-le, drop_while-stops}
use Rattle.tl_html_spec.specs.HtmlTokenizer.{OpenTag, with_attribute}
use Rattle.tl_html_parts.specs.Bytes.{is_bare_byte, is_key_byte, is_space}
use Rattle.tl_html_parts.specs.Parts.{name_of, value_of}
use Rattle.tl_html_parts.specs.Rest.{HasRest, IsTail, cut, tail_tokens, whole}
use Rattle.tl_html_parts.specs.Inner.Tail.{begins_blank, begins_key, begins_with, is_other, value_tokens}
use Rattle.tl_html_parts.proofs.Attributes.{after_quote, attribute-alone, attribute-valued, bare-value-read, blank-read, blank_some, double-value-read, single-value-read, tail-is, value_in}
use Rattle.tl_html_parts.proofs.Splits.{front_is, is_run, key_inside, key_told, longer, word-IsRun}

-- a value, and what stands after it
record Value (t : List ℕ) : Type 0 where
  value : List ℕ
  rest : List ℕ
  within : length rest ≤ length t
  told : (tag : OpenTag) (key : List ℕ) → value_tokens tag key t ≡ tail_tokens (with_attribute tag key (value_of value)) rest

value-there : (t : List ℕ) → Stops is_space t → Value t
value-there t stops = elim (cases_Bool (begins_with 34 t)) [
  | inl y ↦ (
      let u : List ℕ = drop 1 t in
      let shorter = drop-le 1 t in
      let rest = drop-le (suc (prefix_len (is_other 34) u)) u in
      record {
        value = value_in 34 u;
        rest = after_quote 34 u;
        within = omega arith;
        told = λ tag key. ap (value_tokens tag key) (front_is 34 t 0 y) ∙ double-value-read tag key u;
      })
  | inr n ↦ elim (cases_Bool (begins_with 39 t)) [
    | inl y ↦ (
        let u : List ℕ = drop 1 t in
        let shorter = drop-le 1 t in
        let rest = drop-le (suc (prefix_len (is_other 39) u)) u in
        record {
          value = value_in 39 u;
          rest = after_quote 39 u;
          within = omega arith;
          told = λ tag key. ap (value_tokens tag key) (front_is 39 t 0 y) ∙ single-value-read tag key u;
        })
    | inr m ↦ (
        let k : ℕ = prefix_len is_bare_byte t in
        record {
          value = take k t;
          rest = drop k t;
          within = drop-le k t;
          told = λ tag key. bare-value-read tag key t (take k t) (drop k t) (is_run is_bare_byte t k refl) stops (n, m);
        })
  ]
]

-- an attribute, and what stands after it
record One (t : List ℕ) : Type 0 where
  key : List ℕ
  value : List ℕ
  rest : List ℕ
  shorter : length rest < length t
  told : (tag : OpenTag) → tail_tokens tag t ≡ tail_tokens (with_attribute tag (name_of key) (value_of value)) rest

one-there : (t : List ℕ) → begins_key t ≡ true → One t
one-there t h =
    let inside = key_inside t 0 h in
    let k : ℕ = prefix_len is_key_byte (drop 1 t) in
    let run : IsRun is_key_byte (drop 1 t) (take (1 + 0 + k - 1) (drop 1 t)) (drop (1 + 0 + k) t) = word-IsRun is_key_byte t 1 0 k refl (omega arith) refl in
    let end : ℕ = 1 + 0 + k in
    let key : List ℕ = take (end - 0) t in
    let after : List ℕ = drop end t in
    let rest : List ℕ = drop_while is_space after in
    let keyed = λ (tag : OpenTag). key_told tag t 0 end h (omega arith) run in
    let left = length-drop end t in
    let spaces = drop_while-le is_space after in
    elim (cases_Bool (begins_with 61 rest)) [
      | inl y ↦ (
          let u : List ℕ = drop 1 rest in
          let own : Value (drop_while is_space u) = value-there (drop_while is_space u) (drop_while-stops is_space u) in
          let within = own.within in
          let more = drop_while-le is_space u in
          let one = drop-le 1 rest in
          record {
            key = key;
            value = own.value;
            rest = own.rest;
            shorter = omega arith;
            told = λ tag. keyed tag ∙ attribute-valued tag (name_of key) after u run.stops (front_is 61 rest 0 y) ∙ own.told tag (name_of key);
          })
      | inr n ↦ record {
        key = key;
        value = [];
        rest = rest;
        shorter = omega arith;
        told = λ tag. keyed tag ∙ attribute-alone tag (name_of key) after run.stops n;
      }
    ]

-- the rest of a tag
pub record Rest (t : List ℕ) : Type 0 where
  pub attributes : List (List ℕ × List ℕ)
  pub closes : Bool
  pub has : HasRest t attributes closes

moved : (tag : OpenTag) (t u : List ℕ) (attributes : List (List ℕ × List ℕ)) (closes : Bool) → tail_tokens tag t ≡ tail_tokens tag u → IsTail tag u attributes closes → IsTail tag t attributes closes
moved tag t u attributes closes e (cut n) = cut (e ∙ n)
moved tag t u attributes closes e (whole ts w) = whole ts (e ∙ w)

rest-in : (n : ℕ) (t : List ℕ) → length t ≤ n → Rest t
rest-in zero [] l = record { attributes = []; closes = false; has = λ tag. cut refl }
rest-in zero (b ∷ t) l = absurd (omega arith)
rest-in (suc n) t l = elim (cases_Bool (begins_blank t)) [
  | inl y ↦ (
      let some = blank_some t y in
      let left = length-drop 1 t in
      let more : Rest (drop 1 t) = rest-in n (drop 1 t) (omega arith) in
      record { attributes = more.attributes; closes = more.closes; has = λ tag. moved tag t (drop 1 t) more.attributes more.closes (blank-read tag t y) (more.has tag) })
  | inr m ↦ elim (cases_Bool (begins_key t)) [
    | inl y ↦ (
        let one : One t = one-there t y in
        let shorter = one.shorter in
        let more : Rest one.rest = rest-in n one.rest (omega arith) in
        record { attributes = (one.key, one.value) ∷ more.attributes; closes = more.closes; has = λ tag. longer tag t one.rest one.key one.value more.attributes more.closes (one.told tag) (more.has _) })
    | inr k ↦ record { attributes = []; closes = begins_with 47 t; has = λ tag. tail-is tag t t [] refl k m }
  ]
]

pub rest-there : (t : List ℕ) → Rest t
rest-there t = rest-in (length t) t (omega arith)
