use Rattle.std.proofs.Common.{length, ◌≤◌}
use Rattle.tl_patch_edit.proofs.Apart.{AreUnstartedSoFar}
use Rattle.tl_patch_edit.proofs.refused.all_unstarted.Given as goal

-- those so far, before those of the places that are left, are all
abbrev pub invariant-loop-at : goal.invariant-loop-at
invariant-loop-at l = record {
  within : l.from ≤ length l.tokens;
  so_far : AreUnstartedSoFar l.page l.tokens l.places l.at l.from l.unstarted.items;
}
