use Rattle.std.proofs.Common.{List, ℕ, ◌-◌, ◌≡◌}
use Rattle.tl_values.specs.Inner.Names.{AreKept}
use Rattle.tl_values.specs.Names.{free_number}
use Rattle.tl_values.proofs.names.Names.free_number.Given as goal

-- the number is the first that is left
abbrev pub invariant-loop-number : goal.invariant-loop-number
invariant-loop-number l =
    (used : List (List ℕ)) → AreKept l.self used
    → free_number used l.name (l.end - l.number) l.number ≡ free_number used l.name (l.end - l.from) l.from
