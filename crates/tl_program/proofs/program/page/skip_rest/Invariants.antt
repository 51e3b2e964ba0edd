use Rattle.std.proofs.Common.{◌≡◌}
use Rattle.tl_program.proofs.program.page.skip_rest.Given as goal

-- no read has failed
abbrev pub invariant-loop-call : goal.invariant-loop-call
invariant-loop-call g l = (g.R.Input.seen l.reader).has_failed ≡ (g.R.Input.seen l.fn.reader).has_failed
