use Rattle.std.proofs.Common.{subst, sym}
use Rattle.tl_page.specs.Outcome.{Gives}
use Rattle.tl_c.specs.Css.{AreFoundBelowBy, answer_by, css_by}
use Rattle.tl_c.specs.Queries.{tree_in}
use Rattle.tl_c.specs.declared.css.Reading.TheVariants.{Relative}
use Rattle.tl_c.proofs.css_calls.tl_node_first_css.Goals as goal

pub returns-clause-finds : goal.returns-clause-finds
returns-clause-finds c = λ ns found.
    let css = css_by Relative c.args.selector.now in
    let node = c.args.node in
    let gives = subst (λ held. Gives (λ numbers. numbers.items) (answer_by css (tree_in node held) ns) c.find_css_below.result) c.replace-held.ensures.replaced
    (c.find_css_below.ensures.finds ns (subst (λ held. AreFoundBelowBy node css held ns) (sym c.replace-held.ensures.replaced) found)) in
    c.put_one.ensures.put _ (c.first-found.ensures.gives _ gives)

pub returns-clause-told : goal.returns-clause-told
returns-clause-told c = λ other.
    c.find_css_below.ensures.told (λ lost. other (c.put_one.ensures.memory.1 (c.first-found.ensures.memory.1 lost)))

pub returns-clause-lost : goal.returns-clause-lost
returns-clause-lost c = λ three.
    c.find_css_below.ensures.lost (c.first-found.ensures.memory.0 (c.put_one.ensures.memory.0 three))
