use Rattle.std.proofs.Common.{◌≡◌, ◌++◌, drop}
use Rattle.tl_patch.specs.AttributePlaces.{places_from, places_of}
use Rattle.tl_patch.proofs.places.places.Given as goal

abbrev pub invariant-loop-at : goal.invariant-loop-at
invariant-loop-at l = l.places.items ++ places_from l.stage l.at (drop l.at l.rest) ≡ places_of l.rest
