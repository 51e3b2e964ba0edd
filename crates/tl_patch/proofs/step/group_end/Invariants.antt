use Rattle.std.proofs.Common.{◌≡◌, ◌≤◌, ◌-◌, map, take, drop, length}
use Rattle.std.specs.List.{All}
use Rattle.tl_patch.specs.PatchView.{PlacedChange, patch_view}
use Rattle.tl_patch.proofs.step.group_end.Given as goal

abbrev pub invariant-loop-end : goal.invariant-loop-end
invariant-loop-end l = record {
  order : l.from ≤ l.end;
  within : l.end ≤ length l.patches;
  here : All (λ (c : PlacedChange). c.place ≡ l.place) (map patch_view (take (l.end - l.from) (drop l.from l.patches)));
}

abbrev pub decreases-loop-end : goal.decreases-loop-end
decreases-loop-end l = length l.patches - l.end
