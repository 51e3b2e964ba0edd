use Rattle.std.proofs.Common.{◌≡◌, ◌+◌, ◌<◌, ◌++◌, length, vec_len, vec_capacity}
use Rattle.indexmap.specs.Drain.{drain_rest}
use Rattle.tl_inline.proofs.inline.hashmap.heap.pair_table.list_of.Given as goal

abbrev pub invariant-loop-pair : goal.invariant-loop-pair
invariant-loop-pair g l = (goal.iterator-loop-pair g).can_next l.pair-iterator
    × (goal.iterator-loop-pair g).is_finite l.pair-iterator
    × (l.pairs.items ++ drain_rest l.pair-iterator ≡ l.fn.indexed.entries)
    × (vec_len l.pairs + length (drain_rest l.pair-iterator) < vec_capacity l.pairs)
