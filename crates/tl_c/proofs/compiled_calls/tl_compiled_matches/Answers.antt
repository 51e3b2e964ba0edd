use Rattle.std.proofs.Common.{subst, sym}
use Rattle.std.specs.Option.{option_map}
use Rattle.tl_page.specs.Outcome.{Gives}
use Rattle.tl_c.specs.CompiledSelectors.{css_held}
use Rattle.tl_c.specs.Css.{TellsAt, answer_by}
use Rattle.tl_c.specs.Queries.{one_if, tree_in}
use Rattle.tl_c.proofs.compiled_calls.tl_compiled_matches.Goals as goal

pub returns-clause-tells : goal.returns-clause-tells
returns-clause-tells c = λ holds found.
    let was = c.replace-held.ensures.replaced in
    let had = c.replace-own.ensures.replaced in
    let own = option_map (λ selector. selector.value) c.replace-own.result in
    let asked = subst (λ compiled. TellsAt c.args.node (css_held compiled) c.args.document.now.held holds) (sym had) found in
    let there = subst (λ held. TellsAt c.args.node (css_held own) held holds) (sym was) asked in
    let gives = subst (λ held. Gives (λ answer. answer) (answer_by (css_held own) (tree_in c.args.node held) (one_if holds)) c.compiled_holds_at-holds.result) was (c.compiled_holds_at-holds.ensures holds there) in
    let answer = subst (λ compiled. Gives (λ answer. answer) (answer_by (css_held compiled) (tree_in c.args.node c.args.document.now.held) (one_if holds)) c.compiled_holds_at-holds.result) had gives in
    c.put_one.ensures.put _ answer
