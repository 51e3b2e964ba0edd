use Rattle.std.proofs.Common.{◌≡◌, ◌+◌, ◌-◌, ◌≤◌, length, drop}
use Rattle.std.specs.Prelude.{◌==◌}
use Rattle.std.specs.List.{position_or_len}
use Rattle.tl_bytes.proofs.simd.find.Given as goal

abbrev pub invariant-loop-at : goal.invariant-loop-at
invariant-loop-at l =
    (l.at ≤ length l.haystack)
    × (position_or_len (λ b. b == l.needle) l.haystack ≡ l.at + position_or_len (λ b. b == l.needle) (drop l.at l.haystack))

abbrev pub decreases-loop-at : goal.decreases-loop-at
decreases-loop-at l = length l.haystack - l.at
