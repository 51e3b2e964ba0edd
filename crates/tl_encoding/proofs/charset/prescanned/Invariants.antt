use Rattle.std.proofs.Common.{◌≡◌, ◌-◌, length}
use Rattle.tl_encoding.specs.Charset.{prescanned, said_within}
use Rattle.tl_encoding.proofs.charset.prescanned.Given as goal

-- what is left says what all says
abbrev pub invariant-loop-step : goal.invariant-loop-step
invariant-loop-step l = prescanned l.head ≡ said_within (length l.head - l._step) l.rest
