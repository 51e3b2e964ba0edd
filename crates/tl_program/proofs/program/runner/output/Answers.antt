use Rattle.std.proofs.Common.{◌≡◌, Err, List, ℕ, rules, string_bytes, subst, sym}
use Rattle.tl_page.specs.Outcome.{Gives, Outcome}
use Rattle.tl_page.proofs.Pages.{outcome-read, outcome-unread}
use Rattle.tl_program.specs.Action.{action_of, selector_of}
use Rattle.tl_program.specs.Output.{command_output, outcome_of_document}
use Rattle.tl_program.proofs.Meaning.{IsSelectorOf-selector_of}
use Rattle.tl_program.proofs.program.runner.output.Goals as goal

pub returns-in_err-document-clause-outcome : goal.returns-in_err-document-clause-outcome
returns-in_err-document-clause-outcome c =
    let action = action_of c.args.command.now in
    let failure = c.in_err-document.field-0.0 in
    let is : c.from_residual.result ≡ Err failure = search rules in
    let fails = outcome-unread c.args.input.now (outcome_of_document action (selector_of action)) failure c.in_err-document.ensures.gives in (
      selector_of action,
      IsSelectorOf-selector_of action,
      subst (Gives string_bytes (command_output c.args.command.now (selector_of action) c.args.input.now)) (sym is) fails,
    )

pub returns-clause-outcome : goal.returns-clause-outcome
returns-clause-outcome c =
    let action = action_of c.args.command.now in
    let read = outcome-read c.args.input.now (outcome_of_document action (selector_of action)) _ c.in_ok-document.ensures.gives in (
      selector_of action,
      IsSelectorOf-selector_of action,
      subst (λ (outcome : Outcome (List ℕ)). Gives string_bytes outcome c.execute.result) (sym read) c.execute.ensures.outcome,
    )
