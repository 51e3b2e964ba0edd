use Rattle.std.proofs.Common.{◌≡◌, ◌+◌, length, map}
use Rattle.std.specs.Option.{option_map_or}
use Rattle.tl_spec.specs.Edit.StepLine.{parse_changes, changes_of_lines}
use Rattle.tl_program.specs.Steps.{change_of, remaining_lines}
use Rattle.tl_program.proofs.Lines.{after_changes}
use Rattle.tl_program.proofs.script.parser.collect_steps.Given as goal

-- the steps so far, and then those of what is left, are those of the text
abbrev pub invariant-loop-rest : goal.invariant-loop-rest
invariant-loop-rest l = parse_changes l.text ≡ after_changes (map change_of l.steps.items) (changes_of_lines (remaining_lines l.rest))

abbrev pub decreases-loop-rest : goal.decreases-loop-rest
decreases-loop-rest l = option_map_or (λ r. length r.now + 1) l.rest 0
