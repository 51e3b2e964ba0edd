use Rattle.std.proofs.Common.{◌≡◌, ◌∙◌, ◌+◌, ◌-◌, ◌≤◌, ◌∷◌, ℕ, Bool, List, arith, ap, drop, false, get_or, length, subst, sym, take, true}
use Rattle.std.proofs.lemmas.Bool.{and_from, not-true}
use Rattle.std.proofs.lemmas.List.{drop_more}
use Rattle.std.specs.List.{list_all}
use Rattle.tl_spec.specs.Lex.Grammar.{IsRun}
use Rattle.tl_html_spec.specs.HtmlTokenizer.{ends_name}
use Rattle.tl_html_spec.specs.Reader.{feed}
use Rattle.tl_html_tokens.specs.Inner.InTag.{IsAfterKey, IsInTag}
use Rattle.tl_html_tokens.proofs.InTag.{past_key}
use Rattle.tl_html_parts.specs.Inner.Tail.{begins_key}
use Rattle.tl_html_parts.specs.Bytes.{is_kept_in_name, is_key_byte}
use Rattle.tl_html_parts.specs.Parts.{name_of}
use Rattle.tl_html_parts.proofs.Kept.{name_kept}
use Rattle.tl_html_parts.proofs.Splits.{key_inside, key_part, key_told}
use Rattle.tl_html_parts.proofs.attribute.key_at.Goals as goal

pub returns-then-more-clause-key : goal.returns-then-more-clause-key
returns-then-more-clause-key c =
    let t : List ℕ = c.args.text.now in
    let at : ℕ = c.args.at in
    let end : ℕ = c.word_at-more.result.end in
    let w : List ℕ = take (end - (at + 1)) (drop (at + 1) t) in
    let order = c.word_at-more.ensures.order in
    record {
      order = omega arith;
      within = c.word_at-more.ensures.within;
      plain = λ kept.
          let rest : list_all is_kept_in_name w ≡ true = ap (λ n. list_all is_kept_in_name (take (end - n) (drop n t))) (sym c.word_at-more.ensures.start) ∙ c.word_at-more.ensures.plain c.if-more.true in
          let part = key_part t at end (key_inside t at c.requires) order in
          ap name_of part
          ∙ name_kept (get_or t at 0 ∷ w) (and_from (is_kept_in_name (get_or t at 0)) (list_all is_kept_in_name w) (sym c.is_kept_in_name.ensures ∙ kept) rest)
          ∙ sym part;
    }

-- a key that is read on to its end
on_key : (t : List ℕ) (at end start : ℕ) (e : Bool) → begins_key (drop at t) ≡ true → at + 1 ≤ end → end ≤ length t → IsRun is_key_byte (drop (at + 1) t) (take (end - (at + 1)) (drop (at + 1) t)) (drop end t) →
    IsInTag t start at e → IsAfterKey t start end e
on_key t at end start e begins order within run h =
    let l = key_inside t at begins in
    let first : ends_name (feed (get_or t at 0)) ≡ false = not-true _ (sym (ap begins_key (drop_more t at 0 l)) ∙ begins) in
    let sum : at + 1 + (end - (at + 1)) ≡ end = omega (arith, order) in
    subst (λ k. IsAfterKey t start k e) sum (past_key t start at e (end - (at + 1)) h (omega (arith, order, within)) first run.inside)

pub returns-then-more-clause-tag : goal.returns-then-more-clause-tag
returns-then-more-clause-tag c start e h =
    let t : List ℕ = c.args.text.now in
    let end : ℕ = c.word_at-more.result.end in
    on_key t c.args.at end start e c.requires c.word_at-more.ensures.order c.word_at-more.ensures.within
    (subst (λ n. IsRun is_key_byte (drop (c.args.at + 1) t) (take (end - n) (drop n t)) (drop end t)) c.word_at-more.ensures.start c.word_at-more.ensures.run) h

pub returns-else-more-clause-tag : goal.returns-else-more-clause-tag
returns-else-more-clause-tag c start e h =
    let t : List ℕ = c.args.text.now in
    let end : ℕ = c.word_at-more.result.end in
    on_key t c.args.at end start e c.requires c.word_at-more.ensures.order c.word_at-more.ensures.within
    (subst (λ n. IsRun is_key_byte (drop (c.args.at + 1) t) (take (end - n) (drop n t)) (drop end t)) c.word_at-more.ensures.start c.word_at-more.ensures.run) h

pub returns-then-more-clause-tokens : goal.returns-then-more-clause-tokens
returns-then-more-clause-tokens c = λ tag.
    let t : List ℕ = c.args.text.now in
    let end : ℕ = c.word_at-more.result.end in
    key_told tag t c.args.at end c.requires c.word_at-more.ensures.order
    (subst (λ n. IsRun is_key_byte (drop (c.args.at + 1) t) (take (end - n) (drop n t)) (drop end t)) c.word_at-more.ensures.start c.word_at-more.ensures.run)

pub returns-else-more-clause-tokens : goal.returns-else-more-clause-tokens
returns-else-more-clause-tokens c = λ tag.
    let t : List ℕ = c.args.text.now in
    let end : ℕ = c.word_at-more.result.end in
    key_told tag t c.args.at end c.requires c.word_at-more.ensures.order
    (subst (λ n. IsRun is_key_byte (drop (c.args.at + 1) t) (take (end - n) (drop n t)) (drop end t)) c.word_at-more.ensures.start c.word_at-more.ensures.run)
