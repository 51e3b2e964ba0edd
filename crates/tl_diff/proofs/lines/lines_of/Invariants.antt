use Rattle.std.proofs.Common.{length, ◌++◌, ◌≡◌}
use Rattle.std.specs.List.{concat}
use Rattle.tl_diff.specs.Scripts.{lines_said}
use Rattle.tl_diff.proofs.lines.lines_of.Given as goal

-- the lines so far, and then the rest, are the text
abbrev pub invariant-loop-rest : goal.invariant-loop-rest
invariant-loop-rest l = concat (lines_said l.lines.items) ++ l.rest ≡ l.text

abbrev pub decreases-loop-rest : goal.decreases-loop-rest
decreases-loop-rest l = length l.rest
