use Rattle.std.proofs.Common.{◌≡◌, ◌∙◌, Err, ap, rules, string_bytes, subst, sym}
use Rattle.tl_tree_safe.specs.ListOptions.{lists_in, policy_text}
use Rattle.tl_tree_safe.specs.Policies.{listed_words}
use Rattle.tl_page.specs.Outcome.{Gives, Outcome, not_understood, success}
use Rattle.tl_page.specs.declared.failure.Failure.TheVariants.{NotUnderstood}
use Rattle.tl_tree_safe.specs.Lists.{ListedWords}
use Rattle.tl_c.specs.LentLists.{lent_lists, lines_in, lists_in_texts}
use Rattle.tl_c.proofs.own_policy.lines_with.Goals as goal

pub returns-in_err-texts : goal.returns-in_err-texts
returns-in_err-texts c =
    let failure = c.in_err-texts.field-0.0 in
    let why : failure ≡ NotUnderstood = c.in_err-texts.ensures.failure in
    let is : c.from_residual.result ≡ Err failure = search rules in
    let none : lent_lists c.args.lists.now ≡ not_understood = rw why at c.in_err-texts.ensures.gives in
    record { gives = subst (Gives (λ text. text.items) (lines_in (lent_lists c.args.lists.now))) (sym (is ∙ ap Err why)) (ap lines_in none) }

pub returns : goal.returns
returns c =
    let own : lists_in c.in_ok-words.words ≡ lists_in_texts c.in_ok-texts.texts = c.in_ok-words.ensures in
    let lent : success (lists_in c.in_ok-words.words) ≡ lent_lists c.args.lists.now = ap success own ∙ sym c.in_ok-texts.ensures.gives in
    let said : string_bytes c.in_ok-lines.lines ≡ policy_text (listed_words c.lists.result) = c.in_ok-lines.ensures in
    let listed : listed_words c.lists.result ≡ lists_in c.in_ok-words.words = c.lists.ensures in
    let bytes : c.into_bytes.result.items ≡ string_bytes c.in_ok-lines.lines = search rules in
    record { gives = sym (ap lines_in lent) ∙ ap success (ap policy_text (sym listed) ∙ sym said ∙ sym bytes) }
