use Rattle.std.proofs.Common.{◌≤◌, ℕ, List, ◌++◌, length, map, drop}
use Rattle.tl_patch.specs.Inner.Steps.{AreWritten, IsPage}
use Rattle.tl_patch.specs.PatchView.{patch_view}
use Rattle.tl_patch.proofs.Reasons.{ArePassed}
use Rattle.tl_patch.proofs.page.patched.Given as goal

abbrev pub invariant-loop-at : goal.invariant-loop-at
invariant-loop-at l = record {
  within : l.next ≤ length l.patches;
  page : (rest : List ℕ) → AreWritten l.page (drop l.at l.tokens) (map patch_view (drop l.next l.patches)) rest → IsPage l.page l.tokens (map patch_view l.patches) (l.text.items ++ rest);
  passed : ArePassed l.tokens l.patches l.at l.next;
}
