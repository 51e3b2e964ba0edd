use Rattle.std.proofs.Common.{◌≡◌, rules, subst, sym}
use Rattle.std.specs.Option.{option_map}
use Rattle.tl_css.specs.Selector.{Css}
use Rattle.tl_page.specs.Outcome.{Gives, success}
use Rattle.tl_c.specs.Css.{IsClosestBy, answer_by, found_or_refused}
use Rattle.tl_c.specs.Queries.{tree_in}
use Rattle.tl_c.proofs.compiled_css.compiled_innermost.Goals as goal

pub returns : goal.returns
returns c =
    let parsed = option_map (λ own. own.value) c.args.held.now in
    let selector : Css = c.in-Some.own.value.selector in
    let own = c.deref.ensures in
    let lent : c.deref.result.now.selector ≡ selector = search rules in
    rw c.in-Some.is (λ n found.
    subst (λ (css : Css). Gives (λ number. number) (found_or_refused (answer_by (success css) (tree_in c.args.node parsed) n)) c.innermost.result) lent
    (c.innermost.ensures n (subst (λ (css : Css). IsClosestBy c.args.node (success css) parsed n) (sym lent) found)))
