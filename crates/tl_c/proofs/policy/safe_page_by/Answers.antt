use Rattle.std.proofs.Common.{None, Option, Some, ap, subst, sym, ◌∙◌, ◌≡◌}
use Rattle.std.specs.Option.{option_map}
use Rattle.std.specs.Prelude.{IfOk}
use Rattle.tl_html_spec.specs.HtmlTokenizer.{without_mark}
use Rattle.tl_page.specs.Outcome.{Gives}
use Rattle.tl_tree_safe.specs.Lists.{ListedWords}
use Rattle.tl_tree_safe.specs.OfPolicy.{lists_of}
use Rattle.tl_c.specs.Policies.{kept_by, lists_of_number}
use Rattle.tl_c.specs.SafePages.{IsSafe}
use Rattle.tl_c.proofs.policy.safe_page_by.Goals as goal

pub returns-in-None-clause-gives : goal.returns-in-None-clause-gives
returns-in-None-clause-gives c =
    let none : lists_of_number c.args.number ≡ None = sym c.policy_of.ensures ∙ ap (option_map lists_of) c.in-None.is in
    ap (λ (lists : Option ListedWords). kept_by lists c.args.page.now) none

pub returns-in-None-clause-safe : goal.returns-in-None-clause-safe
returns-in-None-clause-safe c = λ p is.
    let none : lists_of_number c.args.number ≡ None = sym c.policy_of.ensures ∙ ap (option_map lists_of) c.in-None.is in
    absurd (cc)

pub returns-in-Some-clause-gives : goal.returns-in-Some-clause-gives
returns-in-Some-clause-gives c =
    let some : lists_of_number c.args.number ≡ Some (lists_of c.in-Some.policy) = sym c.policy_of.ensures ∙ ap (option_map lists_of) c.in-Some.is in
    subst (λ (lists : Option ListedWords). Gives (λ safe. safe.items) (kept_by lists c.args.page.now) c.safe_page.result) (sym some) c.safe_page.ensures.gives

pub returns-in-Some-clause-no_policy : goal.returns-in-Some-clause-no_policy
returns-in-Some-clause-no_policy c = λ none.
    let some : lists_of_number c.args.number ≡ Some (lists_of c.in-Some.policy) = sym c.policy_of.ensures ∙ ap (option_map lists_of) c.in-Some.is in
    absurd (cc)

pub returns-in-Some-clause-safe : goal.returns-in-Some-clause-safe
returns-in-Some-clause-safe c = λ p is.
    let some : lists_of_number c.args.number ≡ Some (lists_of c.in-Some.policy) = sym c.policy_of.ensures ∙ ap (option_map lists_of) c.in-Some.is in
    let same : lists_of c.in-Some.policy ≡ p = cc in
    subst (λ (lists : ListedWords). IfOk c.safe_page.result (λ safe. IsSafe lists (without_mark c.args.page.now) safe.items)) same c.safe_page.ensures.safe
