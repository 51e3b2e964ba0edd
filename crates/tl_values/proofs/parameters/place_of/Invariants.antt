use Rattle.std.proofs.Common.{drop, ◌+◌, ◌≡◌}
use Rattle.tl_values.specs.Parameters.{place_of}
use Rattle.tl_values.proofs.parameters.place_of.Given as goal

abbrev pub invariant-loop-place : goal.invariant-loop-place
invariant-loop-place l = place_of l.byte l.text ≡ l.place + place_of l.byte (drop l.place l.text)
