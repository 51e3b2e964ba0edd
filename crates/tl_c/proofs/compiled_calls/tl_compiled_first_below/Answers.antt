use Rattle.std.proofs.Common.{subst, sym}
use Rattle.std.specs.Option.{option_map}
use Rattle.tl_page.specs.Outcome.{Gives}
use Rattle.tl_c.specs.CompiledSelectors.{css_held}
use Rattle.tl_c.specs.Css.{AreFoundBelowBy, answer_by}
use Rattle.tl_c.specs.Queries.{tree_in}
use Rattle.tl_c.proofs.compiled_calls.tl_compiled_first_below.Goals as goal

pub returns-clause-finds : goal.returns-clause-finds
returns-clause-finds c = λ ns found.
    let was = c.replace-held.ensures.replaced in
    let had = c.replace-own.ensures.replaced in
    let own = option_map (λ selector. selector.value) c.replace-own.result in
    let asked = subst (λ compiled. AreFoundBelowBy c.args.node (css_held compiled) c.args.document.now.held ns) (sym had) found in
    let there = subst (λ held. AreFoundBelowBy c.args.node (css_held own) held ns) (sym was) asked in
    let gives = subst (λ held. Gives (λ numbers. numbers.items) (answer_by (css_held own) (tree_in c.args.node held) ns) c.compiled_finds_below.result) was (c.compiled_finds_below.ensures ns there) in
    let answer = subst (λ compiled. Gives (λ numbers. numbers.items) (answer_by (css_held compiled) (tree_in c.args.node c.args.document.now.held) ns) c.compiled_finds_below.result) had gives in
    c.put_one.ensures.put _ (c.first-found.ensures.gives _ answer)
