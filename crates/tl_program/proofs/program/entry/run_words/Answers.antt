use Rattle.std.proofs.Common.{Option, option_map, sym, ap, ◌∙◌, subst}
use Rattle.std.specs.Option.{option_and_then}
use Rattle.tl_spec.specs.Select.Selector.{Selector}
use Rattle.tl_program.specs.Action.{Action, action_of}
use Rattle.tl_program.specs.Output.{printed_document}
use Rattle.tl_program.specs.Run.{IsRun}
use Rattle.tl_program.specs.Args.{IsSelectorOfAny, output_of_any}
use Rattle.tl_program.proofs.program.entry.run_words.Goals as goal

pub returns-in-Ok-Some-clause-run : goal.returns-in-Ok-Some-clause-run
returns-in-Ok-Some-clause-run g c =
    let is_asked = sym (ap (option_map action_of) c.in-Ok-Some.field-0-is) ∙ c.in-Ok-Some.ensures.ok in
    subst (λ (o : Option Action). (selector : Option Selector) × IsSelectorOfAny o selector × IsRun (output_of_any o selector)
    (λ d. option_and_then (λ action. printed_document action d) o) c.run.result (g.R.Input.seen c.args.reader.now) (g.R.Input.seen c.run.new.reader)
    g.W.Output.seen c.args.writer.now c.run.new.writer) is_asked c.run.ensures.run
