use Rattle.std.proofs.Common.{length, ◌≡◌}
use Rattle.tl_patch_select.proofs.Bounded.{AreSpansUpTo}
use Rattle.tl_patch_select.proofs.ranges.each_alone.Given as goal

-- each so far by itself
abbrev pub invariant-loop-at : goal.invariant-loop-at
invariant-loop-at l = record { count : length l.spans.items ≡ l.at; each : AreSpansUpTo l.all l.spans.items }
