use Rattle.std.proofs.Common.{◌≡◌, length}
use Rattle.tl_encoding.specs.Content.{charset_at, first_said}
use Rattle.tl_encoding.proofs.content.charset_in.Given as goal

-- what is left says what the text says
abbrev pub invariant-loop-rest : goal.invariant-loop-rest
invariant-loop-rest l = first_said charset_at l.content ≡ first_said charset_at l.rest

abbrev pub decreases-loop-rest : goal.decreases-loop-rest
decreases-loop-rest l = length l.rest
