use Rattle.std.proofs.Common.{◌≡◌, map, take}
use Rattle.tl_patch.specs.PatchView.{change_view, patch_view}
use Rattle.tl_patch_select.specs.Patched.{changes_at}
use Rattle.tl_patch_select.proofs.patched.patches_at.Given as goal

-- the patches are those of the places so far
abbrev pub invariant-loop-place : goal.invariant-loop-place
invariant-loop-place l = map patch_view l.patches.items ≡ changes_at (change_view l.change) (take l.place-index l.places)
