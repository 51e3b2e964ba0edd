use Rattle.std.proofs.Common.{◌-◌, ◌≤◌, IsTrue, length, take}
use Rattle.std.specs.List.{list_all}
use Rattle.tl_dom_spec.specs.Runs.{is_of_run}
use Rattle.tl_tree.specs.Inner.Modes.{mode_of}
use Rattle.tl_tree.specs.Inner.RunKinds.{kind_view}
use Rattle.tl_tree.proofs.run_bytes.run_len.Given as goal

abbrev pub invariant-loop-len : goal.invariant-loop-len
invariant-loop-len l =
    record {
      within : l.len ≤ length l.rest;
      same : IsTrue (list_all (is_of_run (mode_of l.mode) (kind_view l.kind)) (take l.len l.rest));
    }

abbrev pub decreases-loop-len : goal.decreases-loop-len
decreases-loop-len l = length l.rest - l.len
