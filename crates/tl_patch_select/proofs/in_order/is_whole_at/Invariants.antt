use Rattle.std.proofs.Common.{ℕ}
use Rattle.tl_patch_select.proofs.Crossing.{AreWholeUpTo}
use Rattle.tl_patch_select.proofs.Bounded.{AreNoLess}
use Rattle.tl_patch_select.proofs.in_order.is_whole_at.Given as goal

-- it is whole in those so far
abbrev pub invariant-loop-at : goal.invariant-loop-at
invariant-loop-at l = record {
  behind : AreNoLess l.elements l.at l.place;
  whole : (tail : ℕ) → AreWholeUpTo l.elements l.tree tail l.number l.place l.at;
}
