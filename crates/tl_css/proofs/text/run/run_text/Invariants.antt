use Rattle.std.proofs.Common.{◌≡◌, ◌++◌, length}
use Rattle.tl_css.specs.Lexical.{run_at}
use Rattle.tl_css.proofs.text.run.run_text.Given as goal

abbrev pub invariant-parts : goal.invariant-parts
invariant-parts l = l.text.items ++ (run_at l.quote l.left).0 ≡ (run_at l.quote l.s).0

abbrev pub decreases-parts : goal.decreases-parts
decreases-parts l = length l.left
