use Rattle.std.proofs.Common.{◌≡◌, ◌++◌, drop}
use Rattle.tl_patch_spec.specs.Together.{at_each}
use Rattle.tl_patch_edit.specs.View.{patch_view, patches_view}
use Rattle.tl_patch_edit.proofs.several.each_at.Given as goal

-- the patches so far, before those at the places that are left, are all
abbrev pub invariant-loop-at : goal.invariant-loop-at
invariant-loop-at l = at_each (patch_view l.patch) l.places ≡ patches_view l.patches.items ++ at_each (patch_view l.patch) (drop l.at l.places)
