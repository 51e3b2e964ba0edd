use Rattle.std.proofs.Common.{Err, List, ap, rules, subst, sym, ℕ, ◌∙◌, ◌≡◌}
use Rattle.std.specs.Prelude.{IfOk}
use Rattle.tl_html_spec.specs.HtmlTokenizer.{without_mark}
use Rattle.tl_page.specs.Outcome.{Gives, Outcome, refused}
use Rattle.tl_page.specs.declared.failure.Failure.TheVariants.{Refused}
use Rattle.tl_tree_safe.specs.ListOptions.{lists_in}
use Rattle.tl_tree_safe.specs.Lists.{ListedWords}
use Rattle.tl_c.specs.LentLists.{kept_lawful}
use Rattle.tl_c.specs.SafePages.{IsSafe, kept_page}
use Rattle.tl_c.proofs.Lent.{lawful-cause, lawful-kept, unlawful-kept}
use Rattle.tl_c.proofs.own_policy.page_by_words.Goals as goal

pub returns-in_err-policy-clause-gives : goal.returns-in_err-policy-clause-gives
returns-in_err-policy-clause-gives c =
    let own = lists_in c.args.words.now in
    let none : kept_lawful own c.args.page.now ≡ refused = unlawful-kept own c.args.page.now c.in_err-policy.ensures.lawful in
    let failure = c.in_err-policy.field-0.0 in
    let is : c.from_residual.result ≡ Err failure = search rules in
    let why : failure ≡ Refused = c.in_err-policy.ensures.refused in
    subst (Gives (λ safe. safe.items) (kept_lawful own c.args.page.now)) (sym (is ∙ ap Err why)) none

pub returns-in_err-policy-clause-lawful : goal.returns-in_err-policy-clause-lawful
returns-in_err-policy-clause-lawful c = λ other.
    let failure = c.in_err-policy.field-0.0 in
    let is : c.from_residual.result ≡ Err failure = search rules in
    let why : failure ≡ Refused = c.in_err-policy.ensures.refused in
    absurd (other (is ∙ ap Err why))

pub returns-clause-gives : goal.returns-clause-gives
returns-clause-gives c =
    let own = lists_in c.args.words.now in
    let page = c.args.page.now in
    subst (λ (outcome : Outcome (List ℕ)). Gives (λ safe. safe.items) outcome c.safe_page.result)
    (ap (λ (lists : ListedWords). kept_page lists page) c.in_ok-policy.ensures.lists ∙ sym (lawful-kept own page c.in_ok-policy.ensures.lawful))
    c.safe_page.ensures.gives

pub returns-clause-safe : goal.returns-clause-safe
returns-clause-safe c =
    subst (λ (lists : ListedWords). IfOk c.safe_page.result (λ safe. IsSafe lists (without_mark c.args.page.now) safe.items)) c.in_ok-policy.ensures.lists c.safe_page.ensures.safe

pub returns-clause-lawful : goal.returns-clause-lawful
returns-clause-lawful c = λ _. c.in_ok-policy.ensures.told ∙ lawful-cause (lists_in c.args.words.now) c.in_ok-policy.ensures.lawful
