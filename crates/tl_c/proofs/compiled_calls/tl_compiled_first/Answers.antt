use Rattle.std.proofs.Common.{subst, sym}
use Rattle.std.specs.Option.{option_map}
use Rattle.tl_page.specs.Outcome.{Gives}
use Rattle.tl_c.specs.CompiledSelectors.{css_held}
use Rattle.tl_c.specs.Css.{IsFirstBy, answer_by, found_or_refused}
use Rattle.tl_c.specs.Queries.{tree_held}
use Rattle.tl_c.proofs.compiled_calls.tl_compiled_first.Goals as goal

pub returns-clause-finds : goal.returns-clause-finds
returns-clause-finds c = λ n found.
    let was = c.replace-held.ensures.replaced in
    let had = c.replace-own.ensures.replaced in
    let own = option_map (λ selector. selector.value) c.replace-own.result in
    let asked = subst (λ compiled. IsFirstBy (css_held compiled) c.args.document.now.held n) (sym had) found in
    let there = subst (λ held. IsFirstBy (css_held own) held n) (sym was) asked in
    let gives = subst (λ held. Gives (λ number. number) (found_or_refused (answer_by (css_held own) (tree_held held) n)) c.compiled_finds_first-found.result) was (c.compiled_finds_first-found.ensures n there) in
    let answer = subst (λ compiled. Gives (λ number. number) (found_or_refused (answer_by (css_held compiled) (tree_held c.args.document.now.held) n)) c.compiled_finds_first-found.result) had gives in
    c.put_one.ensures.put _ answer
