use Rattle.std.proofs.Common.{◌≡◌, ℕ, ◌-◌, ◌<◌, ◌≤◌, true, get_or, length}
use Rattle.tl_encoding.specs.Runs.{is_of}
use Rattle.tl_encoding.proofs.run.run_len.Given as goal

-- the bytes so far are of the class
abbrev pub invariant-loop-at : goal.invariant-loop-at
invariant-loop-at l = record {
  bound : l.at ≤ length l.bytes;
  passed : (k : ℕ) → k < l.at → is_of l.class (get_or l.bytes k 0) ≡ true;
}

abbrev pub decreases-loop-at : goal.decreases-loop-at
decreases-loop-at l = length l.bytes - l.at
