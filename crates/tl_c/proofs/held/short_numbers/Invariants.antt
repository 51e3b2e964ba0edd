use Rattle.std.proofs.Common.{◌≡◌, map, take}
use Rattle.tl_c.specs.Queries.{short}
use Rattle.tl_c.proofs.held.short_numbers.Given as goal

abbrev pub invariant-loop-number : goal.invariant-loop-number
invariant-loop-number l = l.own.items ≡ map short (take l.number-index l.numbers)
