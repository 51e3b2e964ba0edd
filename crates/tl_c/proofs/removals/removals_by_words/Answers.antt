use Rattle.std.proofs.Common.{Err, List, ap, rules, subst, sym, ℕ, ◌∙◌, ◌≡◌}
use Rattle.tl_html_spec.specs.HtmlTokenizer.{without_mark}
use Rattle.tl_page.specs.Outcome.{Outcome, refused}
use Rattle.tl_page.specs.declared.failure.Failure.TheVariants.{Refused}
use Rattle.tl_tree_safe.specs.ListOptions.{lists_in}
use Rattle.tl_tree_safe.specs.Lists.{ListedWords}
use Rattle.tl_c.specs.LentLists.{kept_lawful}
use Rattle.tl_c.specs.Removals.{AreRemovals, GivesSome}
use Rattle.tl_c.specs.SafePages.{kept_page}
use Rattle.tl_c.proofs.Lent.{lawful-cause, lawful-kept, unlawful-kept}
use Rattle.tl_c.proofs.removals.removals_by_words.Goals as goal

pub returns-in_err-policy-clause-gives : goal.returns-in_err-policy-clause-gives
returns-in_err-policy-clause-gives c =
    let own = lists_in c.args.words.now in
    let page : List ℕ = c.args.page.now in
    let none : kept_lawful own page ≡ refused = unlawful-kept own page c.in_err-policy.ensures.lawful in
    let failure = c.in_err-policy.field-0.0 in
    let is : c.from_residual.result ≡ Err failure = search rules in
    let why : failure ≡ Refused = c.in_err-policy.ensures.refused in
    subst (GivesSome (λ bytes. AreRemovals own (without_mark page) bytes.items) (kept_lawful own page)) (sym (is ∙ ap Err why)) none

pub returns-in_err-policy-clause-lawful : goal.returns-in_err-policy-clause-lawful
returns-in_err-policy-clause-lawful c = λ other.
    let failure = c.in_err-policy.field-0.0 in
    let is : c.from_residual.result ≡ Err failure = search rules in
    let why : failure ≡ Refused = c.in_err-policy.ensures.refused in
    absurd (other (is ∙ ap Err why))

pub returns-clause-gives : goal.returns-clause-gives
returns-clause-gives c =
    let own = lists_in c.args.words.now in
    let page : List ℕ = c.args.page.now in
    subst (λ (outcome : Outcome (List ℕ)). GivesSome (λ bytes. AreRemovals own (without_mark page) bytes.items) outcome c.removals_of_page.result)
    (sym (lawful-kept own page c.in_ok-policy.ensures.lawful))
    (subst (λ (lists : ListedWords). GivesSome (λ bytes. AreRemovals lists (without_mark page) bytes.items) (kept_page lists page) c.removals_of_page.result)
    c.in_ok-policy.ensures.lists c.removals_of_page.ensures.gives)

pub returns-clause-lawful : goal.returns-clause-lawful
returns-clause-lawful c = λ _. c.in_ok-policy.ensures.told ∙ lawful-cause (lists_in c.args.words.now) c.in_ok-policy.ensures.lawful
