use Rattle.std.proofs.Common.{◌≡◌, ◌≤◌, ◌<◌, ◌∙◌, ◌-◌, ◌+◌, ◌==◌, ℕ, Bool, List, [], ap, arith, drop, false, get_or, length, length-drop, sym, subst, take, true}
use Rattle.std.specs.List.{list_all}
use Rattle.std.proofs.lemmas.Bool.{eqb-true}
use Rattle.std.proofs.lemmas.List.{drop_more}
use Rattle.tl_html_tokens.specs.Inner.InTag.{IsAfterKey, IsBeforeValue, IsInTag}
use Rattle.tl_html_tokens.proofs.InTag.{no_value, past_equals, past_key_space, past_value_space}
use Rattle.tl_spec.specs.Lex.Grammar.{Stops}
use Rattle.tl_spec.proofs.Lex.Bytes.{drop_while-stops}
use Rattle.tl_html_spec.specs.HtmlTokenizer.{with_attribute}
use Rattle.tl_html_parts.specs.Bytes.{is_space}
use Rattle.tl_html_parts.specs.Parts.{name_of, value_of}
use Rattle.tl_html_parts.specs.Places.{part_in}
use Rattle.tl_html_parts.specs.Rest.{tail_tokens}
use Rattle.tl_html_parts.specs.Inner.Tail.{begins_with, value_tokens}
use Rattle.tl_html_parts.proofs.Attributes.{attribute-alone, attribute-valued}
use Rattle.tl_html_parts.proofs.Splits.{begins_some, front_is}
use Rattle.tl_html_parts.proofs.attribute.attribute_at.Goals as goal

pub returns-then-not-is_at-clause-tokens : goal.returns-then-not-is_at-clause-tokens
returns-then-not-is_at-clause-tokens c = λ tag.
    let t : List ℕ = c.args.text.now in
    let key : List ℕ = name_of (part_in t c.key_at-key.result) in
    let rest : List ℕ = drop c.key_at-key.result.end t in
    let after : ℕ = c.after_space-after.result in
    let none : after - after ≡ 0 = omega arith in
    c.key_at-key.ensures.tokens tag
    ∙ attribute-alone tag key rest c.key_at-key.ensures.stops (ap (begins_with 61) (sym c.after_space-after.ensures.rest) ∙ (sym c.is_at.ensures ∙ c.if-not-is_at.true))
    ∙ ap (tail_tokens (with_attribute tag key [])) (sym c.after_space-after.ensures.rest)
    ∙ ap (λ n. tail_tokens (with_attribute tag key (value_of (take n (drop after t)))) (drop after t)) (sym none)

pub value_at-found-requires-clause-stops : goal.value_at-found-requires-clause-stops
value_at-found-requires-clause-stops c = subst (Stops is_space) (sym c.after_space.ensures.rest) (drop_while-stops is_space (drop (c.after_space-after.result + 1) c.args.text.now))

pub returns-clause-tokens : goal.returns-clause-tokens
returns-clause-tokens c = λ tag.
    let t : List ℕ = c.args.text.now in
    let key : List ℕ = name_of (part_in t c.key_at-key.result) in
    let rest : List ℕ = drop c.key_at-key.result.end t in
    let after : ℕ = c.after_space-after.result in
    c.key_at-key.ensures.tokens tag
    ∙ attribute-valued tag key rest (drop (after + 1) t) c.key_at-key.ensures.stops (sym c.after_space-after.ensures.rest ∙ front_is 61 t after (sym c.is_at.ensures ∙ c.if-not-is_at.false))
    ∙ ap (value_tokens tag key) (sym c.after_space.ensures.rest)
    ∙ c.value_at-found.ensures.tokens tag key

-- no byte of a class stands at a place
stops_at : (p : ℕ → Bool) (t : List ℕ) (at : ℕ) → Stops p (drop at t) → at < length t → p (get_or t at 0) ≡ false
stops_at p t at h l = subst (Stops p) (drop_more t at 0 l) h

equals_not : (t : List ℕ) (at : ℕ) → begins_with 61 (drop at t) ≡ false → at < length t → (get_or t at 0 == 61) ≡ false
equals_not t at h l = sym (ap (begins_with 61) (drop_more t at 0 l)) ∙ h

module _ (t : List ℕ) (key after start : ℕ) (e : Bool) (order : key ≤ after) (within : after ≤ length t) (spaces : list_all is_space (take (after - key) (drop key t)) ≡ true) (h : IsAfterKey t start key e) where
  behind : IsAfterKey t start after e
  behind =
      let sum : key + (after - key) ≡ after = omega (arith, order) in
      subst (λ k. IsAfterKey t start k e) sum (past_key_space t start key e (after - key) h (omega (arith, order, within)) spaces)

  alone : Stops is_space (drop after t) → begins_with 61 (drop after t) ≡ false → IsInTag t start after e
  alone stops other = no_value t start after e behind (λ l. (stops_at is_space t after stops l, equals_not t after other l))

  equal : begins_with 61 (drop after t) ≡ true → IsBeforeValue t start (after + 1) e
  equal equals =
      let some = begins_some 61 (drop after t) equals in
      let left = length-drop after t in
      let l : after < length t = omega (arith, some, left) in
      past_equals t start after e behind l (eqb-true (get_or t after 0) 61 (sym (ap (begins_with 61) (drop_more t after 0 l)) ∙ equals))

pub returns-then-not-is_at-clause-tag : goal.returns-then-not-is_at-clause-tag
returns-then-not-is_at-clause-tag c start e h =
    let t : List ℕ = c.args.text.now in
    let own = c.after_space-after.ensures in
    alone t c.key_at-key.result.end c.after_space-after.result start e own.order own.within own.spaces (c.key_at-key.ensures.tag start e h)
    (subst (Stops is_space) (sym own.rest) (drop_while-stops is_space (drop c.key_at-key.result.end t)))
    (sym c.is_at.ensures ∙ c.if-not-is_at.true)

pub returns-clause-tag : goal.returns-clause-tag
returns-clause-tag c start e h =
    let t : List ℕ = c.args.text.now in
    let own = c.after_space-after.ensures in
    let next = c.after_space.ensures in
    let from : ℕ = c.after_space-after.result + 1 in
    let to : ℕ = c.after_space.result in
    let b : IsBeforeValue t start from e =
    equal t c.key_at-key.result.end c.after_space-after.result start e own.order own.within own.spaces (c.key_at-key.ensures.tag start e h) (sym c.is_at.ensures ∙ c.if-not-is_at.false) in
    let order : from ≤ to = next.order in
    let sum : from + (to - from) ≡ to = omega (arith, order) in
    c.value_at-found.ensures.tag start e
    (subst (λ k. IsBeforeValue t start k e) sum (past_value_space t start from e (to - from) b (let w = next.within in omega (arith, order, w)) next.spaces))
