use Rattle.std.proofs.Common.{subst, sym}
use Rattle.tl_page.specs.Outcome.{Gives}
use Rattle.tl_c.specs.Css.{IsFirstBy, answer_by, css_in, found_or_refused}
use Rattle.tl_c.specs.Queries.{tree_held}
use Rattle.tl_c.proofs.css_calls.tl_first_css.Goals as goal

pub returns-clause-finds : goal.returns-clause-finds
returns-clause-finds c = λ n found.
    let css = css_in c.args.selector.now in
    c.put_one.ensures.put _
    (subst (λ held. Gives (λ number. number) (found_or_refused (answer_by css (tree_held held) n)) c.find_first_css-found.result) c.replace-held.ensures.replaced
    (c.find_first_css-found.ensures.finds n (subst (λ held. IsFirstBy css held n) (sym c.replace-held.ensures.replaced) found)))

pub returns-clause-told : goal.returns-clause-told
returns-clause-told c = λ other.
    c.find_first_css-found.ensures.told (λ lost. other (c.put_one.ensures.memory.1 lost))

pub returns-clause-lost : goal.returns-clause-lost
returns-clause-lost c = λ three. c.find_first_css-found.ensures.lost (c.put_one.ensures.memory.0 three)
