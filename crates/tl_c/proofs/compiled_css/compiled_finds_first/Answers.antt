use Rattle.std.proofs.Common.{◌≡◌, rules, subst, sym}
use Rattle.std.specs.Option.{option_map}
use Rattle.tl_css.specs.Selector.{Css}
use Rattle.tl_page.specs.Outcome.{Gives, success}
use Rattle.tl_c.specs.Css.{IsFirstBy, answer_by, found_or_refused}
use Rattle.tl_c.specs.Queries.{tree_held}
use Rattle.tl_c.proofs.compiled_css.compiled_finds_first.Goals as goal

pub returns : goal.returns
returns c =
    let parsed = option_map (λ own. own.value) c.args.held.now in
    let selector : Css = c.in-Some.own.value.selector in
    let own = c.deref.ensures in
    let lent : c.deref.result.now.selector ≡ selector = search rules in
    rw c.in-Some.is (λ n found.
    subst (λ (css : Css). Gives (λ number. number) (found_or_refused (answer_by (success css) (tree_held parsed) n)) c.select_first.result) lent
    (c.select_first.ensures n (subst (λ (css : Css). IsFirstBy (success css) parsed n) (sym lent) found)))
