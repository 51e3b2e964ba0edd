use Rattle.std.proofs.Common.{◌≡◌, ◌+◌, is_some, length}
use Rattle.std.specs.Option.{option_map_or}
use Rattle.tl_spec.specs.Edit.StepLine.{parse_changes, changes_of_lines}
use Rattle.tl_program.specs.Steps.{remaining_lines}
use Rattle.tl_program.proofs.script.parser.are_steps.Given as goal

-- all lines say steps where those that are left do
abbrev pub invariant-loop-rest : goal.invariant-loop-rest
invariant-loop-rest l = is_some (parse_changes l.text) ≡ is_some (changes_of_lines (remaining_lines l.rest))

abbrev pub decreases-loop-rest : goal.decreases-loop-rest
decreases-loop-rest l = option_map_or (λ r. length r.now + 1) l.rest 0
