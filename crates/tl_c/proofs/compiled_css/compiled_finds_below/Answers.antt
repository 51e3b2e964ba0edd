use Rattle.std.proofs.Common.{◌≡◌, rules, subst, sym}
use Rattle.std.specs.Option.{option_map}
use Rattle.tl_css.specs.Selector.{Css}
use Rattle.tl_page.specs.Outcome.{Gives, success}
use Rattle.tl_c.specs.Css.{AreFoundBelowBy, answer_by}
use Rattle.tl_c.specs.Queries.{tree_in}
use Rattle.tl_c.proofs.compiled_css.compiled_finds_below.Goals as goal

pub returns : goal.returns
returns c =
    let parsed = option_map (λ own. own.value) c.args.held.now in
    let selector : Css = c.in-Some.own.value.selector in
    let own = c.deref.ensures in
    let lent : c.deref.result.now.selector ≡ selector = search rules in
    rw c.in-Some.is (λ ns found.
    subst (λ (css : Css). Gives (λ numbers. numbers.items) (answer_by (success css) (tree_in c.args.node parsed) ns) c.select_below.result) lent
    (c.select_below.ensures ns (subst (λ (css : Css). AreFoundBelowBy c.args.node (success css) parsed ns) (sym lent) found)))
