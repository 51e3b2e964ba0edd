use Rattle.std.proofs.Common.{subst, sym}
use Rattle.tl_page.specs.Outcome.{Gives}
use Rattle.tl_c.specs.Css.{TellsAt, answer_by, css_in}
use Rattle.tl_c.specs.Queries.{one_if, tree_in}
use Rattle.tl_c.proofs.css_calls.tl_node_matches_css.Goals as goal

pub returns-clause-tells : goal.returns-clause-tells
returns-clause-tells c = λ holds tells.
    let css = css_in c.args.selector.now in
    let node = c.args.node in
    c.put_one.ensures.put _
    (subst (λ held. Gives (λ answer. answer) (answer_by css (tree_in node held) (one_if holds)) c.css_holds_at-holds.result) c.replace-held.ensures.replaced
    (c.css_holds_at-holds.ensures.tells holds (subst (λ held. TellsAt node css held holds) (sym c.replace-held.ensures.replaced) tells)))

pub returns-clause-told : goal.returns-clause-told
returns-clause-told c = λ other.
    c.css_holds_at-holds.ensures.told (λ lost. other (c.put_one.ensures.memory.1 lost))

pub returns-clause-lost : goal.returns-clause-lost
returns-clause-lost c = λ three. c.css_holds_at-holds.ensures.lost (c.put_one.ensures.memory.0 three)
