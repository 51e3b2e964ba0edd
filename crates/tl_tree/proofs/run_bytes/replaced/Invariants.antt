use Rattle.std.proofs.Common.{◌-◌, ◌≡◌, ◌≤◌, length, take}
use Rattle.tl_dom_spec.specs.Runs.{with_replacements}
use Rattle.tl_tree.proofs.run_bytes.replaced.Given as goal

abbrev pub invariant-loop-at : goal.invariant-loop-at
invariant-loop-at l =
    record {
      within : l.at ≤ length l.bytes;
      same : l.out.items ≡ with_replacements (take l.at l.bytes);
    }

abbrev pub decreases-loop-at : goal.decreases-loop-at
decreases-loop-at l = length l.bytes - l.at
