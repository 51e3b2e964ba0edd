use Rattle.std.proofs.Common.{◌++◌, List, drop, take}
use Rattle.tl_patch_edit.specs.Inner.Causes.{ReachesFrom}
use Rattle.tl_patch_edit.specs.Several.{AreMeantAt, places_of}
use Rattle.tl_patch_edit.specs.View.{patches_view}
use Rattle.tl_patch_edit.specs.declared.ask.MeantPatch.{MeantPatch}
use Rattle.tl_patch_edit.proofs.several.meant_at.Given as goal

-- the start tags so far, before those of the patches that are left, are those of all patches
abbrev pub invariant-loop-at : goal.invariant-loop-at
invariant-loop-at l = record {
  meant : (rest : List MeantPatch) → AreMeantAt l.from l.tokens (drop l.at l.patches) rest → AreMeantAt 0 l.tokens l.patches (l.meant.items ++ rest);
  reaches : ReachesFrom l.tokens (take l.at (places_of (patches_view l.patches))) l.from;
}
