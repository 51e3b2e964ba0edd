use Rattle.std.proofs.Common.{subst, sym}
use Rattle.tl_page.specs.Outcome.{Gives}
use Rattle.tl_c.specs.Css.{AreFoundBy, css_in}
use Rattle.tl_c.specs.FoundValues.{values_by}
use Rattle.tl_c.proofs.css_calls.tl_select_values.Goals as goal

pub returns-clause-finds : goal.returns-clause-finds
returns-clause-finds c = λ ns found.
    let css = css_in c.args.selector.now in
    c.copy_result.ensures.put _
    (subst (λ held. Gives (λ values. values.items) (values_by css c.args.key.now held ns) c.find_values-found.result) c.replace-held.ensures.replaced
    (c.find_values-found.ensures.finds ns (subst (λ held. AreFoundBy css held ns) (sym c.replace-held.ensures.replaced) found)))

pub returns-clause-told : goal.returns-clause-told
returns-clause-told c = λ other.
    c.find_values-found.ensures.told (λ lost. other (c.copy_result.ensures.memory.1 lost))

pub returns-clause-lost : goal.returns-clause-lost
returns-clause-lost c = λ three. c.find_values-found.ensures.lost (c.copy_result.ensures.memory.0 three)
