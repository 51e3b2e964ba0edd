-- Start tags by their numbers.
use Rattle.std.proofs.Common.{◌≡◌, ◌<◌, ◌≤◌, ℕ, ◌+◌, List, length, get_or, slice_get, Some, ap, sym, ◌∙◌, arith, inl, inr}
use Rattle.std.proofs.lemmas.Bool.{cases_Bool, ltb-false, ltb-true}
use lib.Dec.{ltb}
use Rattle.std.proofs.lemmas.Option.{slice_get-get_or, slice_get_within}
use Rattle.tl_html_tokens.specs.declared.stage.TokenKind.TheVariants as kind
use Rattle.tl_html_tokens.specs.declared.token.Token.{Token}
use Rattle.tl_patch_edit.specs.Inner.Causes.{NoStartFrom}
use Rattle.tl_patch_edit.specs.Found.{IsStartAt}

pub start_is : (ts : List Token) (place n : ℕ) (d : Token) → n < length ts → (get_or ts n d).start ≡ place → (get_or ts n d).kind ≡ kind.StartTag → IsStartAt ts place n (get_or ts n d)
start_is ts place n d l s k = record { is = slice_get-get_or ts n d l; start = s; kind = k }

-- no start tag between two numbers begins at a place
abbrev pub NoStartBetween : ℕ → ℕ → List Token → ℕ → Type 0
NoStartBetween from until tokens place = (n : ℕ) (t : Token) → from ≤ n → n < until → slice_get tokens n ≡ Some t → t.start ≡ place → t.kind ≡ kind.StartTag → ⊥

pub none_more : (tokens : List Token) (from at place : ℕ) (d : Token) → at < length tokens → ((get_or tokens at d).start ≡ place → (get_or tokens at d).kind ≡ kind.StartTag → ⊥) →
    NoStartBetween from at tokens place → NoStartBetween from (at + 1) tokens place
none_more tokens from at place d l f h = λ n t o k e s q. elim (cases_Bool (ltb n at)) [
  | inl y ↦ h n t o (ltb-true n at y) e s q
  | inr y ↦
      let m : at ≤ n = ltb-false n at y in
      let same : n ≡ at = omega arith in
      let a : slice_get tokens at ≡ Some (get_or tokens at d) = slice_get-get_or tokens at d l in
      let b : slice_get tokens at ≡ Some t = ap (slice_get tokens) (sym same) ∙ e in
      let is : get_or tokens at d ≡ t = cc in
      f (ap (λ (x : Token). x.start) is ∙ s) (ap (λ (x : Token). x.kind) is ∙ q)
]

pub none_all : (tokens : List Token) (from at place : ℕ) → length tokens ≤ at → NoStartBetween from at tokens place → NoStartFrom from tokens place
none_all tokens from at place l h = λ n t o e s q. h n t o (let k : n < length tokens = slice_get_within tokens n t e in omega arith) e s q

pub none_yet : (tokens : List Token) (from place : ℕ) → NoStartBetween from from tokens place
none_yet tokens from place = λ n t o k e s q. absurd (omega arith)
