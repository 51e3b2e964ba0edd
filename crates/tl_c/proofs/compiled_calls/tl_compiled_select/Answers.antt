use Rattle.std.proofs.Common.{subst, sym}
use Rattle.std.specs.Option.{option_map}
use Rattle.tl_page.specs.Outcome.{Gives}
use Rattle.tl_c.specs.CompiledSelectors.{css_held}
use Rattle.tl_c.specs.Css.{AreFoundBy, answer_by}
use Rattle.tl_c.specs.Queries.{tree_held}
use Rattle.tl_c.proofs.compiled_calls.tl_compiled_select.Goals as goal

pub returns-clause-finds : goal.returns-clause-finds
returns-clause-finds c = λ ns found.
    let was = c.replace-held.ensures.replaced in
    let had = c.replace-own.ensures.replaced in
    let own = option_map (λ selector. selector.value) c.replace-own.result in
    let asked = subst (λ compiled. AreFoundBy (css_held compiled) c.args.document.now.held ns) (sym had) found in
    let there = subst (λ held. AreFoundBy (css_held own) held ns) (sym was) asked in
    let gives = subst (λ held. Gives (λ numbers. numbers.items) (answer_by (css_held own) (tree_held held) ns) c.compiled_finds-found.result) was (c.compiled_finds-found.ensures ns there) in
    let answer = subst (λ compiled. Gives (λ numbers. numbers.items) (answer_by (css_held compiled) (tree_held c.args.document.now.held) ns) c.compiled_finds-found.result) had gives in
    c.copy_result.ensures.put _ answer
