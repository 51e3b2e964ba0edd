use Rattle.std.proofs.Common.{◌≡◌}
use Rattle.std.specs.Prelude.{fold}
use Rattle.uses.specs.Filling.{insert_pair}
use Rattle.uses.proofs.fill.insert_pairs.Given as goal

-- the pairs so far were put
abbrev pub invariant-loop-pair : goal.invariant-loop-pair
invariant-loop-pair l = l.attributes ≡ fold insert_pair l.initial.attributes l.yielded
