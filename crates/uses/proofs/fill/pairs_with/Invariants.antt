use Rattle.std.proofs.Common.{◌≡◌, ◌++◌, map}
use Rattle.uses.specs.Fields.{fields_of}
use Rattle.uses.specs.Filling.{pair_with}
use Rattle.uses.proofs.fill.pairs_with.Given as goal

-- what is copied, and then copies of the pairs that are left, are copies of all
abbrev pub invariant-loop-pair : goal.invariant-loop-pair
invariant-loop-pair l =
    l.pairs.items ++ map (pair_with (fields_of l.fields)) l.pair-iterator ≡ map (pair_with (fields_of l.fields)) l.initial.pair-iterator
