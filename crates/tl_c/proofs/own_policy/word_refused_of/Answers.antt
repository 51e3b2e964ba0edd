use Rattle.std.proofs.Common.{◌≡◌, ◌∙◌, None, Option, Some, ap, rules, sym}
use Rattle.tl_tree_safe.specs.ListOptions.{lists_in}
use Rattle.tl_page.specs.Outcome.{success}
use Rattle.tl_tree_safe.specs.Refusals.{Refusal, first_refusal, refusal_of}
use Rattle.tl_c.specs.LentLists.{number_of_refusal}
use Rattle.tl_c.specs.Queries.{outcome_of_some}
use Rattle.tl_c.proofs.own_policy.word_refused_of.Goals as goal

pub returns-in-Ok-clause-gives : goal.returns-in-Ok-clause-gives
returns-in-Ok-clause-gives c =
    let none : first_refusal (lists_in c.args.words.now) ≡ None = ap first_refusal (sym c.lists.ensures) ∙ sym c.in-Ok.ensures.refusal in
    ap (λ (refusal : Option Refusal). outcome_of_some (λ r. success r.0) refusal) none

pub returns-in-Ok-clause-told : goal.returns-in-Ok-clause-told
returns-in-Ok-clause-told c = λ _.
    let none : first_refusal (lists_in c.args.words.now) ≡ None = ap first_refusal (sym c.lists.ensures) ∙ sym c.in-Ok.ensures.refusal in
    sym (ap number_of_refusal none)

pub returns-in_ok-word-in-Err-clause-gives : goal.returns-in_ok-word-in-Err-clause-gives
returns-in_ok-word-in-Err-clause-gives c =
    let some : first_refusal (lists_in c.args.words.now) ≡ Some (refusal_of c.in-Err.error) = ap first_refusal (sym c.lists.ensures) ∙ sym c.in-Err.ensures.refusal in
    let same : c.in-Err.error.word.now ≡ c.into_bytes.result.items = search rules in
    ap (λ (refusal : Option Refusal). outcome_of_some (λ r. success r.0) refusal) some ∙ ap success same

pub returns-in_ok-word-in-Err-clause-told : goal.returns-in_ok-word-in-Err-clause-told
returns-in_ok-word-in-Err-clause-told c = λ _.
    let some : first_refusal (lists_in c.args.words.now) ≡ Some (refusal_of c.in-Err.error) = ap first_refusal (sym c.lists.ensures) ∙ sym c.in-Err.ensures.refusal in
    c.number_of_reason.ensures ∙ sym (ap number_of_refusal some)
