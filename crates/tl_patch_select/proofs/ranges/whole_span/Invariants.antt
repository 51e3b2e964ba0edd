use Rattle.std.proofs.Common.{length, ◌-◌}
use Rattle.tl_patch_select.specs.Inner.Ranges.{IsSpanBefore}
use Rattle.tl_patch_select.proofs.ranges.whole_span.Given as goal

abbrev pub decreases-loop-next : goal.decreases-loop-next
decreases-loop-next l = length l.all - l.span.end

-- all so far have keys that are less
abbrev pub invariant-loop-next : goal.invariant-loop-next
invariant-loop-next l = IsSpanBefore l.all l.start l.past l.span
