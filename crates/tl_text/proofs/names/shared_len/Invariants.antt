use Rattle.std.proofs.Common.{◌≡◌, ◌+◌, ◌-◌, ◌≤◌, ◌==◌, drop, length}
use Rattle.std.specs.List.{common_prefix_len}
use Rattle.tl_text.proofs.names.shared_len.Given as goal

abbrev pub invariant-loop-at : goal.invariant-loop-at
invariant-loop-at l = record {
  name : l.at ≤ length l.name;
  bytes : l.at ≤ length l.bytes;
  shared : common_prefix_len ◌==◌ l.name l.bytes ≡ l.at + common_prefix_len ◌==◌ (drop l.at l.name) (drop l.at l.bytes);
}

abbrev pub decreases-loop-at : goal.decreases-loop-at
decreases-loop-at l = length l.name - l.at
