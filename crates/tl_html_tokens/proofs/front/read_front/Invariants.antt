use Rattle.std.proofs.Common.{◌≤◌, ◌-◌, length}
use Rattle.tl_html_tokens.proofs.Reading.{IsScan}
use Rattle.tl_html_tokens.proofs.front.read_front.Given as goal

abbrev pub invariant-loop-at : goal.invariant-loop-at
invariant-loop-at l = record { scan : IsScan l.page l.start l.mode l.at l.scan; within : l.at ≤ length l.page }

abbrev pub decreases-loop-at : goal.decreases-loop-at
decreases-loop-at l = length l.page - l.at
