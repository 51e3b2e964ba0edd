use Rattle.std.proofs.Common.{◌≡◌, drop}
use Rattle.tl_indexes.specs.Ranges.{last_at_most}
use Rattle.tl_indexes.proofs.ranges.last_at_most.Given as goal

-- what is left goes on from what was found as all does
abbrev pub invariant-loop-row : goal.invariant-loop-row
invariant-loop-row l = last_at_most l.last (drop l.row-index l.rows) l.pointer ≡ last_at_most (0, 0) l.rows l.pointer
