use Rattle.std.proofs.Common.{◌≡◌, length}
use Rattle.tl_css.specs.Lexical.{gap_at}
use Rattle.tl_css.proofs.Runs.{gap_from}
use Rattle.tl_css.proofs.text.gap.gap.Given as goal

abbrev pub invariant-parts : goal.invariant-parts
invariant-parts l = gap_from l.white l.left ≡ gap_at l.s

abbrev pub decreases-parts : goal.decreases-parts
decreases-parts l = length l.left
