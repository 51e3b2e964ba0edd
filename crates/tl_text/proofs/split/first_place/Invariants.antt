use Rattle.std.proofs.Common.{◌≡◌, ℕ, ◌-◌, ◌<◌, ◌≤◌, true, get_or, length}
use Rattle.tl_text.specs.Inner.View.{is_not}
use Rattle.tl_text.proofs.split.first_place.Given as goal

abbrev pub invariant-loop-at : goal.invariant-loop-at
invariant-loop-at l = record {
  bound : l.at ≤ length l.bytes;
  passed : (k : ℕ) → k < l.at → is_not l.wanted (get_or l.bytes k 0) ≡ true;
}

abbrev pub decreases-loop-at : goal.decreases-loop-at
decreases-loop-at l = length l.bytes - l.at
