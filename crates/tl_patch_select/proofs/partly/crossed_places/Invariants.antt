use Rattle.std.proofs.Common.{◌≡◌, take}
use Rattle.tl_patch_select.specs.Partly.{crossed_places}
use Rattle.tl_patch_select.proofs.partly.crossed_places.Given as goal

-- the places are those so far
abbrev pub invariant-loop-one : goal.invariant-loop-one
invariant-loop-one l = l.places.items ≡ crossed_places (take l.one-index l.crossed)
