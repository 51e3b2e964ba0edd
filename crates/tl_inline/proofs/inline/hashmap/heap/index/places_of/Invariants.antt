use Rattle.std.proofs.Common.{take}
use Rattle.tl_inline.specs.Places.{AllowsKeys}
use Rattle.tl_inline.proofs.inline.hashmap.heap.index.places_of.Given as goal

abbrev pub invariant-loop-at : goal.invariant-loop-at
invariant-loop-at g l = AllowsKeys g.K.Hash.hash_input l.places (take l.at l.keys)
