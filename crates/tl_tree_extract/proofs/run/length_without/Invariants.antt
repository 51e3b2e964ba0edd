use Rattle.std.proofs.Common.{◌≡◌, ◌≤◌, length}
use Rattle.tl_tree_extract.specs.Runs.{length_without}
use Rattle.tl_tree_extract.proofs.run.length_without.Given as goal

abbrev pub invariant-loop-len : goal.invariant-loop-len
invariant-loop-len l = record {
  within : l.len ≤ length l.bytes;
  same : length_without l.run l.bytes l.len ≡ length_without l.run l.bytes (length l.bytes);
}

abbrev pub decreases-loop-len : goal.decreases-loop-len
decreases-loop-len l = l.len
