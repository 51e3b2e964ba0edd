use Rattle.std.proofs.Common.{Err, List, ap, rules, subst, sym, ℕ, ◌∙◌, ◌≡◌}
use Rattle.tl_html_spec.specs.HtmlTokenizer.{without_mark}
use Rattle.tl_page.specs.Outcome.{Outcome, not_understood, success}
use Rattle.tl_page.specs.declared.failure.Failure.TheVariants.{NotUnderstood}
use Rattle.tl_tree_safe.specs.ListOptions.{lists_in}
use Rattle.tl_tree_safe.specs.Lists.{ListedWords}
use Rattle.tl_tree_safe.specs.Refusals.{first_refusal}
use Rattle.tl_c.specs.LentLists.{kept_by_lists, kept_lawful, kept_with, lent_lists, lists_in_texts, number_of_refusal, refusal_in}
use Rattle.tl_c.specs.Removals.{AreRemovals, AreRemovalsBy, GivesSome}
use Rattle.tl_c.proofs.Lent.{kept-no_page, kept-page}
use Rattle.tl_c.proofs.removals.removals_with.Goals as goal

pub returns-in_err-text-clause-gives : goal.returns-in_err-text-clause-gives
returns-in_err-text-clause-gives c =
    let lists = c.args.lists.now in
    let page : List ℕ = c.args.page.now in
    let none : kept_with lists page ≡ not_understood = kept-no_page lists page (λ p. let ok = c.in_err-text.ensures.reads p in cc) in
    let is : c.from_residual.result ≡ Err NotUnderstood = search (rules, c.in_err-text.ensures.failure) in
    subst (GivesSome (λ bytes. AreRemovalsBy (lent_lists lists) (without_mark page) bytes.items) (kept_with lists page)) (sym is) none

pub returns-in_err-texts-clause-gives : goal.returns-in_err-texts-clause-gives
returns-in_err-texts-clause-gives c =
    let lists = c.args.lists.now in
    let page : List ℕ = c.args.page.now in
    let failure = c.in_err-texts.field-0.0 in
    let why : failure ≡ NotUnderstood = c.in_err-texts.ensures.failure in
    let is : c.from_residual-in_err-texts.result ≡ Err failure = search rules in
    let none : lent_lists lists ≡ not_understood = rw why at c.in_err-texts.ensures.gives in
    let kept : kept_with lists page ≡ not_understood = kept-page lists page c.in_ok-text.ensures.page ∙ ap (λ (lists : Outcome ListedWords). kept_by_lists lists page) none in
    subst (GivesSome (λ bytes. AreRemovalsBy (lent_lists lists) (without_mark page) bytes.items) (kept_with lists page)) (sym (is ∙ ap Err why)) kept

pub returns-clause-gives : goal.returns-clause-gives
returns-clause-gives c =
    let lists = c.args.lists.now in
    let page : List ℕ = c.args.page.now in
    let text : List ℕ = without_mark page in
    let p : ListedWords = lists_in_texts c.in_ok-texts.texts in
    let own : lists_in c.in_ok-words.words ≡ p = c.in_ok-words.ensures in
    let lent : lent_lists lists ≡ success p = c.in_ok-texts.ensures.gives in
    let kept : kept_with lists page ≡ kept_lawful p page =
    kept-page lists page c.in_ok-text.ensures.page ∙ ap (λ (lists : Outcome ListedWords). kept_by_lists lists page) lent in
    subst (λ (outcome : Outcome (List ℕ)). GivesSome (λ bytes. AreRemovalsBy (lent_lists lists) text bytes.items) outcome c.removals_by_words.result) (sym kept)
    (subst (λ (by : Outcome ListedWords). GivesSome (λ bytes. AreRemovalsBy by text bytes.items) (kept_lawful p page) c.removals_by_words.result) (sym lent)
    (subst (λ (l : ListedWords). GivesSome (λ bytes. AreRemovals l text bytes.items) (kept_lawful l page) c.removals_by_words.result) own
    c.removals_by_words.ensures.gives))

pub returns-clause-told : goal.returns-clause-told
returns-clause-told c = λ _.
    let own : lists_in c.in_ok-words.words ≡ lists_in_texts c.in_ok-texts.texts = c.in_ok-words.ensures in
    c.removals_by_words.ensures.told
    ∙ (ap (λ (lists : ListedWords). number_of_refusal (first_refusal lists)) own
    ∙ ap (λ (lists : Outcome ListedWords). number_of_refusal (refusal_in lists)) (sym c.in_ok-texts.ensures.gives))
