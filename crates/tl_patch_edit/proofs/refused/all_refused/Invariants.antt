use Rattle.std.proofs.Common.{length, ◌≤◌}
use Rattle.tl_patch_edit.proofs.Apart.{AreRefusedSoFar}
use Rattle.tl_patch_edit.proofs.refused.all_refused.Given as goal

-- those so far, before those of the patches that are left, are all
abbrev pub invariant-loop-at : goal.invariant-loop-at
invariant-loop-at l = record {
  within : l.from ≤ length l.tokens;
  so_far : AreRefusedSoFar l.page l.tokens l.patches l.at l.from l.gone l.errors.items;
}
