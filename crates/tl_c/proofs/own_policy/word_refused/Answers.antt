use Rattle.std.proofs.Common.{◌≡◌, ◌∙◌, Err, ap, rules, subst, sym}
use Rattle.tl_tree_safe.specs.ListOptions.{lists_in}
use Rattle.tl_page.specs.Outcome.{Gives, Outcome, not_understood, success}
use Rattle.tl_page.specs.declared.failure.Failure.TheVariants.{NotUnderstood}
use Rattle.tl_tree_safe.specs.Lists.{ListedWords}
use Rattle.tl_c.specs.LentLists.{lent_lists, lists_in_texts, number_of_refusal, refusal_in, refused_word}
use Rattle.tl_c.proofs.own_policy.word_refused.Goals as goal

pub returns-in_err-texts-clause-gives : goal.returns-in_err-texts-clause-gives
returns-in_err-texts-clause-gives c =
    let failure = c.in_err-texts.field-0.0 in
    let why : failure ≡ NotUnderstood = c.in_err-texts.ensures.failure in
    let is : c.from_residual.result ≡ Err failure = search rules in
    let none : lent_lists c.args.lists.now ≡ not_understood = rw why at c.in_err-texts.ensures.gives in
    subst (Gives (λ word. word.items) (refused_word (lent_lists c.args.lists.now))) (sym (is ∙ ap Err why)) (ap refused_word none)

pub returns-in_err-texts-clause-told : goal.returns-in_err-texts-clause-told
returns-in_err-texts-clause-told c = λ _.
    let failure = c.in_err-texts.field-0.0 in
    let why : failure ≡ NotUnderstood = c.in_err-texts.ensures.failure in
    let none : lent_lists c.args.lists.now ≡ not_understood = rw why at c.in_err-texts.ensures.gives in
    sym (ap (λ (lists : Outcome ListedWords). number_of_refusal (refusal_in lists)) none)

pub returns-clause-gives : goal.returns-clause-gives
returns-clause-gives c =
    let own : lists_in c.in_ok-words.words ≡ lists_in_texts c.in_ok-texts.texts = c.in_ok-words.ensures in
    let lent : success (lists_in c.in_ok-words.words) ≡ lent_lists c.args.lists.now = ap success own ∙ sym c.in_ok-texts.ensures.gives in
    subst (λ (lists : Outcome ListedWords). Gives (λ word. word.items) (refused_word lists) c.word_refused_of.result) lent c.word_refused_of.ensures.gives

pub returns-clause-told : goal.returns-clause-told
returns-clause-told c = λ other.
    let own : lists_in c.in_ok-words.words ≡ lists_in_texts c.in_ok-texts.texts = c.in_ok-words.ensures in
    let lent : success (lists_in c.in_ok-words.words) ≡ lent_lists c.args.lists.now = ap success own ∙ sym c.in_ok-texts.ensures.gives in
    c.word_refused_of.ensures.told other ∙ ap (λ (lists : Outcome ListedWords). number_of_refusal (refusal_in lists)) lent
