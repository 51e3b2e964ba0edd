use Rattle.std.proofs.Common.{◌≡◌, length}
use Rattle.tl_css.specs.Lexical.{run_at}
use Rattle.tl_css.proofs.text.run.past_run.Given as goal

abbrev pub invariant-parts : goal.invariant-parts
invariant-parts l = (run_at l.quote l.left).1 ≡ (run_at l.quote l.s).1

abbrev pub decreases-parts : goal.decreases-parts
decreases-parts l = length l.left
