use Rattle.std.proofs.Common.{◌≡◌, take}
use Rattle.tl_patch_select.specs.Partly.{refused_places}
use Rattle.tl_patch_select.proofs.partly.refused_places.Given as goal

-- the places are those so far
abbrev pub invariant-loop-error : goal.invariant-loop-error
invariant-loop-error l = l.places.items ≡ refused_places (take l.error-index l.errors)
