use Rattle.std.proofs.Common.{◌≡◌, rules, subst, sym}
use Rattle.std.specs.Option.{option_map}
use Rattle.tl_css.specs.Selector.{Css}
use Rattle.tl_page.specs.Outcome.{Gives, success}
use Rattle.tl_c.specs.Css.{AreFoundBy, answer_by}
use Rattle.tl_c.specs.Queries.{tree_held}
use Rattle.tl_c.proofs.compiled_css.compiled_finds.Goals as goal

pub returns : goal.returns
returns c =
    let parsed = option_map (λ own. own.value) c.args.held.now in
    let selector : Css = c.in-Some.own.value.selector in
    let own = c.deref.ensures in
    let lent : c.deref.result.now.selector ≡ selector = search rules in
    rw c.in-Some.is (λ ns found.
    subst (λ (css : Css). Gives (λ numbers. numbers.items) (answer_by (success css) (tree_held parsed) ns) c.select.result) lent
    (c.select.ensures ns (subst (λ (css : Css). AreFoundBy (success css) parsed ns) (sym lent) found)))
