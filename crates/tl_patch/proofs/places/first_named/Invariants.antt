use Rattle.std.proofs.Common.{◌≡◌, false, take}
use Rattle.std.specs.List.{list_any}
use Rattle.tl_patch.specs.AttributePlaces.{is_named}
use Rattle.tl_patch.proofs.places.first_named.Given as goal

abbrev pub invariant-loop-at : goal.invariant-loop-at
invariant-loop-at l = list_any (is_named l.rest l.key) (take l.at l.places) ≡ false
