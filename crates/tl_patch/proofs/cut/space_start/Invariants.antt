use Rattle.std.proofs.Common.{◌≡◌, ◌-◌}
use Rattle.tl_patch.specs.Inner.Cuts.{space_before}
use Rattle.tl_patch.proofs.cut.space_start.Given as goal

abbrev pub invariant-loop-start : goal.invariant-loop-start
invariant-loop-start l = space_before (l.start - l.from) l.from l.rest ≡ space_before (l.until - l.from) l.from l.rest

abbrev pub decreases-loop-start : goal.decreases-loop-start
decreases-loop-start l = l.start
