use Rattle.std.proofs.Common.{◌-◌, ◌≡◌, ◌≤◌, filter, length, take}
use Rattle.tl_dom_spec.specs.Runs.{goes_in}
use Rattle.tl_tree.specs.Inner.Modes.{mode_of}
use Rattle.tl_tree.proofs.run_bytes.kept.Given as goal

abbrev pub invariant-loop-at : goal.invariant-loop-at
invariant-loop-at l =
    record {
      within : l.at ≤ length l.bytes;
      same : l.kept.items ≡ filter (goes_in (mode_of l.mode)) (take l.at l.bytes);
    }

abbrev pub decreases-loop-at : goal.decreases-loop-at
decreases-loop-at l = length l.bytes - l.at
