use Rattle.std.proofs.Common.{◌≡◌, ◌-◌, length, drop}
use Rattle.tl_patch.specs.Inner.Cuts.{free_after}
use Rattle.tl_patch.proofs.cut.is_free_after.Given as goal

abbrev pub invariant-loop-at : goal.invariant-loop-at
invariant-loop-at l = free_after (drop l.at l.rest) ≡ free_after (drop l.from l.rest)

abbrev pub decreases-loop-at : goal.decreases-loop-at
decreases-loop-at l = length l.rest - l.at
