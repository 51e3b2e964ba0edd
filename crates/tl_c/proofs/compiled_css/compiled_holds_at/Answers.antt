use Rattle.std.proofs.Common.{◌≡◌, rules, subst, sym}
use Rattle.std.specs.Option.{option_map}
use Rattle.tl_css.specs.Selector.{Css}
use Rattle.tl_page.specs.Outcome.{Gives, success}
use Rattle.tl_c.specs.Css.{TellsAt, answer_by}
use Rattle.tl_c.specs.Queries.{one_if, tree_in}
use Rattle.tl_c.proofs.compiled_css.compiled_holds_at.Goals as goal

pub returns : goal.returns
returns c =
    let parsed = option_map (λ own. own.value) c.args.held.now in
    let selector : Css = c.in-Some.own.value.selector in
    let own = c.deref.ensures in
    let lent : c.deref.result.now.selector ≡ selector = search rules in
    rw c.in-Some.is (λ holds tells.
    subst (λ (css : Css). Gives (λ answer. answer) (answer_by (success css) (tree_in c.args.node parsed) (one_if holds)) c.holds_at.result) lent
    (c.holds_at.ensures holds (subst (λ (css : Css). TellsAt c.args.node (success css) parsed holds) (sym lent) tells)))
