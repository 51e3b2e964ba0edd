use Rattle.std.proofs.Common.{length}
use Rattle.tl_diff.proofs.hunk.Texts.write_hunks.Given as goal

abbrev pub decreases-loop-rest : goal.decreases-loop-rest
decreases-loop-rest l = length l.rest
