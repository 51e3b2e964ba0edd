use Rattle.std.proofs.Common.{◌≡◌}
use Rattle.tl_patch_select.specs.Inner.Sources.{AreSources}
use Rattle.tl_patch_select.proofs.Crossing.{AreWholeUpTo}
use Rattle.tl_patch_select.proofs.Bounded.{AreNoLess}
use Rattle.tl_patch_select.proofs.whole.crossing_at.Given as goal

-- it is whole in those so far
abbrev pub invariant-loop-at : goal.invariant-loop-at
invariant-loop-at l = record {
  behind : AreNoLess l.elements l.at l.place;
  tail : l.sources.tail ≡ l.fn.sources.tail;
  ready : AreSources l.tree l.sources;
  whole : AreWholeUpTo l.elements l.tree l.fn.sources.tail l.number l.place l.at;
}
