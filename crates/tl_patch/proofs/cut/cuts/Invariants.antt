use Rattle.std.proofs.Common.{◌≡◌, ◌≤◌, length, drop, map, reverse}
use Rattle.tl_patch.specs.View.{splice_view}
use Rattle.tl_patch.specs.Inner.Cuts.{cuts_of, last_before}
use Rattle.tl_patch.proofs.cut.cuts.Given as goal

abbrev pub invariant-loop-number : goal.invariant-loop-number
invariant-loop-number l = record {
  within : l.number ≤ length l.places;
  cuts : reverse (map splice_view l.cuts.items) ≡ (cuts_of l.rest l.key (last_before l.places l.number) (drop l.number l.places)).splices;
  follow : l.follow ≡ (cuts_of l.rest l.key (last_before l.places l.number) (drop l.number l.places)).follow;
}

abbrev pub decreases-loop-number : goal.decreases-loop-number
decreases-loop-number l = l.number
