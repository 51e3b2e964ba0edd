use Rattle.std.proofs.Common.{Err, List, ap, rules, subst, sym, ℕ, ◌∙◌, ◌≡◌}
use Rattle.std.specs.Prelude.{IfOk}
use Rattle.tl_html_spec.specs.HtmlTokenizer.{without_mark}
use Rattle.tl_page.specs.Outcome.{Gives, Outcome, not_understood, success}
use Rattle.tl_page.specs.declared.failure.Failure.TheVariants.{NotUnderstood}
use Rattle.tl_tree_safe.specs.ListOptions.{lists_in}
use Rattle.tl_tree_safe.specs.Lists.{ListedWords}
use Rattle.tl_tree_safe.specs.Refusals.{first_refusal}
use Rattle.tl_c.specs.LentLists.{kept_by_lists, kept_lawful, kept_with, lent_lists, lists_in_texts, number_of_refusal, refusal_in}
use Rattle.tl_c.specs.SafePages.{IsSafe}
use Rattle.tl_c.proofs.Lent.{kept-no_page, kept-page}
use Rattle.tl_c.proofs.own_policy.safe_page_with.Goals as goal

pub returns-in_err-text-clause-gives : goal.returns-in_err-text-clause-gives
returns-in_err-text-clause-gives c =
    let none : kept_with c.args.lists.now c.args.page.now ≡ not_understood = kept-no_page c.args.lists.now c.args.page.now (λ p. let ok = c.in_err-text.ensures.reads p in cc) in
    let is : c.from_residual.result ≡ Err NotUnderstood = search (rules, c.in_err-text.ensures.failure) in
    subst (Gives (λ safe. safe.items) (kept_with c.args.lists.now c.args.page.now)) (sym is) none

pub returns-in_err-texts-clause-gives : goal.returns-in_err-texts-clause-gives
returns-in_err-texts-clause-gives c =
    let page = c.args.page.now in
    let failure = c.in_err-texts.field-0.0 in
    let why : failure ≡ NotUnderstood = c.in_err-texts.ensures.failure in
    let is : c.from_residual-in_err-texts.result ≡ Err failure = search rules in
    let none : lent_lists c.args.lists.now ≡ not_understood = rw why at c.in_err-texts.ensures.gives in
    let kept : kept_with c.args.lists.now page ≡ not_understood = kept-page c.args.lists.now page c.in_ok-text.ensures.page ∙ ap (λ (lists : Outcome ListedWords). kept_by_lists lists page) none in
    subst (Gives (λ safe. safe.items) (kept_with c.args.lists.now page)) (sym (is ∙ ap Err why)) kept

pub returns-clause-gives : goal.returns-clause-gives
returns-clause-gives c =
    let page = c.args.page.now in
    let own : lists_in c.in_ok-words.words ≡ lists_in_texts c.in_ok-texts.texts = c.in_ok-words.ensures in
    let kept : kept_with c.args.lists.now page ≡ kept_lawful (lists_in_texts c.in_ok-texts.texts) page =
    kept-page c.args.lists.now page c.in_ok-text.ensures.page ∙ ap (λ (lists : Outcome ListedWords). kept_by_lists lists page) c.in_ok-texts.ensures.gives in
    subst (λ (outcome : Outcome (List ℕ)). Gives (λ safe. safe.items) outcome c.page_by_words.result)
    (ap (λ (lists : ListedWords). kept_lawful lists page) own ∙ sym kept) c.page_by_words.ensures.gives

pub returns-clause-safe : goal.returns-clause-safe
returns-clause-safe c = λ p is.
    let own : lists_in c.in_ok-words.words ≡ lists_in_texts c.in_ok-texts.texts = c.in_ok-words.ensures in
    let lent : success (lists_in_texts c.in_ok-texts.texts) ≡ success p = sym c.in_ok-texts.ensures.gives ∙ is in
    let same : lists_in_texts c.in_ok-texts.texts ≡ p = cc in
    subst (λ (lists : ListedWords). IfOk c.page_by_words.result (λ safe. IsSafe lists (without_mark c.args.page.now) safe.items)) (own ∙ same) c.page_by_words.ensures.safe

pub returns-clause-told : goal.returns-clause-told
returns-clause-told c = λ _.
    let own : lists_in c.in_ok-words.words ≡ lists_in_texts c.in_ok-texts.texts = c.in_ok-words.ensures in
    c.page_by_words.ensures.told
    ∙ (ap (λ (lists : ListedWords). number_of_refusal (first_refusal lists)) own
    ∙ ap (λ (lists : Outcome ListedWords). number_of_refusal (refusal_in lists)) (sym c.in_ok-texts.ensures.gives))
