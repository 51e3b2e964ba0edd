use Rattle.std.proofs.Common.{string_bytes, subst, ap}
use Rattle.tl_page.specs.Outcome.{Gives}
use Rattle.tl_program.specs.Output.{outcome_of_numbers}
use Rattle.tl_program.proofs.program.lookup.selector_lines.Goals as goal

pub returns : goal.returns
returns c =
    let is = c.queries_find.ensures.reading c.args.document.now c.args.selector.now _ c.in_ok-found.ensures.ok in
    subst (λ found. Gives string_bytes (outcome_of_numbers found) c.lines_or_refusal.result) is c.lines_or_refusal.ensures.outcome
