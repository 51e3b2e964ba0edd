use Rattle.std.proofs.Common.{◌≡◌, List, ◌++◌, IsPermutation}
use Rattle.std.specs.HashMap.{IsUnique}
use Rattle.tl_inline.proofs.inline.hashmap.InlineHashMap.to_map.Given as goal

abbrev pub invariant-loop-key : goal.invariant-loop-key
invariant-loop-key g l = (goal.iterator-loop-key g).can_next l.key-iterator
    × (goal.iterator-loop-key g).is_finite l.key-iterator
    × ((done : List (g.row.K.Denot × g.row.V.Denot)) × (done ++ l.key-iterator ≡ l.self.entries) × IsPermutation done l.map.entries)
    × IsUnique g.K.PartialEq.eq l.map
