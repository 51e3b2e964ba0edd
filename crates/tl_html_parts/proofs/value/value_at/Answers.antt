use Rattle.std.proofs.Common.{◌≡◌, ◌≤◌, ◌<◌, ◌==◌, ◌∙◌, ◌+◌, ◌-◌, ℕ, Bool, List, ap, ap₂, arith, drop, false, get_or, inl, inr, length, length-drop, subst, sym, take, true}
use Rattle.std.proofs.lemmas.Bool.{eqb-true}
use Rattle.std.proofs.lemmas.List.{drop_more}
use Rattle.tl_spec.specs.Lex.Grammar.{IsRun, Stops}
use Rattle.tl_html_tokens.specs.Inner.InTag.{IsBeforeValue, IsInTag}
use Rattle.tl_html_tokens.proofs.InTag.{cut_double, cut_single, past_bare, past_double, past_single}
use Rattle.tl_html_parts.specs.Bytes.{is_bare_byte, is_space}
use Rattle.tl_html_parts.specs.declared.value.ValuePlace.{ValuePlace}
use Rattle.tl_html_spec.specs.HtmlTokenizer.{HtmlToken, OpenTag, with_attribute}
use Rattle.tl_html_parts.specs.Parts.{value_of}
use Rattle.tl_html_parts.specs.Places.{part_in}
use Rattle.tl_html_parts.specs.Rest.{tail_tokens}
use Rattle.tl_html_parts.specs.Inner.Quoted.{IsQuoted}
use Rattle.tl_html_parts.specs.Inner.Tail.{begins_with, value_tokens}
use Rattle.tl_html_parts.proofs.Attributes.{bare-value-read, double-value-read, single-value-read}
use Rattle.tl_html_parts.proofs.Kept.{value-kept}
use Rattle.tl_html_parts.proofs.Splits.{begins_some, front_is}
use Rattle.tl_html_parts.proofs.value.value_at.Goals as goal

-- what is read of the rest, by a value and what stands after it
abbrev valued : OpenTag → List ℕ → List ℕ → List ℕ → List HtmlToken
valued tag key v r = tail_tokens (with_attribute tag key (value_of v)) r

pub returns-then-is_at-clause-tokens : goal.returns-then-is_at-clause-tokens
returns-then-is_at-clause-tokens c = λ tag key.
    let t : List ℕ = c.args.text.now in
    let from : ℕ = c.args.from in
    ap (value_tokens tag key) (front_is 34 t from (sym c.is_at.ensures ∙ c.if-is_at.true)) ∙ double-value-read tag key (drop (from + 1) t)
    ∙ ap₂ (valued tag key) (sym c.quoted_value.ensures.value) (sym c.quoted_value.ensures.rest)

pub returns-then-is_at-2-clause-tokens : goal.returns-then-is_at-2-clause-tokens
returns-then-is_at-2-clause-tokens c = λ tag key.
    let t : List ℕ = c.args.text.now in
    let from : ℕ = c.args.from in
    ap (value_tokens tag key) (front_is 39 t from (sym c.is_at-2.ensures ∙ c.if-is_at-2.true)) ∙ single-value-read tag key (drop (from + 1) t)
    ∙ ap₂ (valued tag key) (sym c.quoted_value-then-is_at-2.ensures.value) (sym c.quoted_value-then-is_at-2.ensures.rest)

pub returns-clause-part : goal.returns-clause-part
returns-clause-part c =
    let start = c.word_at-value.ensures.start in
    let order = c.word_at-value.ensures.order in
    record {
      order = omega arith;
      within = c.word_at-value.ensures.within;
      plain = λ kept. value-kept (part_in c.args.text.now c.word_at-value.result) (c.word_at-value.ensures.plain kept);
    }

pub returns-clause-tokens : goal.returns-clause-tokens
returns-clause-tokens c = λ tag key.
    let t : List ℕ = c.args.text.now in
    bare-value-read tag key (drop c.args.from t) (part_in t c.word_at-value.result) (drop c.word_at-value.result.end t) c.word_at-value.ensures.run c.requires.stops
    (sym c.is_at.ensures ∙ c.if-is_at.false, sym c.is_at-2.ensures ∙ c.if-is_at-2.false)

at_quote : (q : ℕ) (t : List ℕ) (at : ℕ) → begins_with q (drop at t) ≡ true → (at < length t) × (get_or t at 0 ≡ q)
at_quote q t at h =
    let some = begins_some q (drop at t) h in
    let left = length-drop at t in
    let l : at < length t = omega (arith, some, left) in
    (l, eqb-true (get_or t at 0) q (sym (ap (begins_with q) (drop_more t at 0 l)) ∙ h))

no_quote : (q : ℕ) (t : List ℕ) (at : ℕ) → begins_with q (drop at t) ≡ false → at < length t → (get_or t at 0 == q) ≡ false
no_quote q t at h l = sym (ap (begins_with q) (drop_more t at 0 l)) ∙ h

module _ (t : List ℕ) (from start : ℕ) (e : Bool) (h : IsBeforeValue t start from e) (found : ValuePlace) where
  double : begins_with 34 (drop from t) ≡ true → IsQuoted 34 t (from + 1) found → IsInTag t start found.end e
  double y q =
      let own = at_quote 34 t from y in
      let order : from + 1 ≤ found.value.end = q.order in
      let n : ℕ = found.value.end - (from + 1) in
      let sum : from + 1 + n ≡ found.value.end = omega (arith, order) in
      elim q.ends [
        | inl x ↦
            let l : from + 1 + n < length t = (let k : found.value.end < length t = x.0 in omega (arith, sum, k)) in
            let last : from + 1 + n + 1 ≡ found.end = ap (λ k. k + 1) sum ∙ sym x.2 in
            subst (λ k. IsInTag t start k e) last (past_double t start from n e h own.0 own.1 l q.inside (ap (λ k. get_or t k 0) sum ∙ x.1))
        | inr x ↦ subst (λ k. IsInTag t start k e) (sum ∙ sym x.1) (cut_double t start from n e h own.0 own.1 (sum ∙ x.0) q.inside)
      ]

  single : begins_with 39 (drop from t) ≡ true → IsQuoted 39 t (from + 1) found → IsInTag t start found.end e
  single y q =
      let own = at_quote 39 t from y in
      let order : from + 1 ≤ found.value.end = q.order in
      let n : ℕ = found.value.end - (from + 1) in
      let sum : from + 1 + n ≡ found.value.end = omega (arith, order) in
      elim q.ends [
        | inl x ↦
            let l : from + 1 + n < length t = (let k : found.value.end < length t = x.0 in omega (arith, sum, k)) in
            let last : from + 1 + n + 1 ≡ found.end = ap (λ k. k + 1) sum ∙ sym x.2 in
            subst (λ k. IsInTag t start k e) last (past_single t start from n e h own.0 own.1 l q.inside (ap (λ k. get_or t k 0) sum ∙ x.1))
        | inr x ↦ subst (λ k. IsInTag t start k e) (sum ∙ sym x.1) (cut_single t start from n e h own.0 own.1 (sum ∙ x.0) q.inside)
      ]

bare_to : (t : List ℕ) (from end start : ℕ) (e : Bool) → IsBeforeValue t start from e → from ≤ end → end ≤ length t → Stops is_space (drop from t) → begins_with 34 (drop from t) ≡ false → begins_with 39 (drop from t) ≡ false →
    IsRun is_bare_byte (drop from t) (take (end - from) (drop from t)) (drop end t) → IsInTag t start end e
bare_to t from end start e h order within spaces d s run =
    let n : ℕ = end - from in
    let sum : from + n ≡ end = omega (arith, order) in
    subst (λ k. IsInTag t start k e) sum
    (past_bare t start from e h n (omega (arith, sum, within))
    (λ l. (subst (Stops is_space) (drop_more t from 0 l) spaces, no_quote 34 t from d l, no_quote 39 t from s l))
    run.inside
    (λ l. subst (Stops is_bare_byte) (ap (λ k. drop k t) (sym sum) ∙ drop_more t (from + n) 0 l) run.stops))

pub returns-then-is_at-clause-tag : goal.returns-then-is_at-clause-tag
returns-then-is_at-clause-tag c start e h =
    double c.args.text.now c.args.from start e h c.quoted_value.result (sym c.is_at.ensures ∙ c.if-is_at.true) c.quoted_value.ensures.ends

pub returns-then-is_at-2-clause-tag : goal.returns-then-is_at-2-clause-tag
returns-then-is_at-2-clause-tag c start e h =
    single c.args.text.now c.args.from start e h c.quoted_value-then-is_at-2.result (sym c.is_at-2.ensures ∙ c.if-is_at-2.true) c.quoted_value-then-is_at-2.ensures.ends

pub returns-clause-tag : goal.returns-clause-tag
returns-clause-tag c start e h =
    let t : List ℕ = c.args.text.now in
    let end : ℕ = c.word_at-value.result.end in
    bare_to t c.args.from end start e h c.word_at-value.ensures.order c.word_at-value.ensures.within c.requires.stops
    (sym c.is_at.ensures ∙ c.if-is_at.false) (sym c.is_at-2.ensures ∙ c.if-is_at-2.false)
    (subst (λ n. IsRun is_bare_byte (drop c.args.from t) (take (end - n) (drop n t)) (drop end t)) c.word_at-value.ensures.start c.word_at-value.ensures.run)
