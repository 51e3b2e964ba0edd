use Rattle.std.proofs.Common.{◌≡◌, ◌<◌, ◌++◌, length}
use Rattle.arrayvec.specs.Iter.{drain_items}
use Rattle.indexmap.specs.IndexMap.{spare}
use Rattle.tl_inline.proofs.inline.hashmap.heap.form.map_of.Given as goal

abbrev pub invariant-loop-key : goal.invariant-loop-key
invariant-loop-key g l = (goal.iterator-loop-key g).can_next l.key-iterator
    × (goal.iterator-loop-key g).is_finite l.key-iterator
    × (l.indexed.entries ++ drain_items l.key-iterator ≡ l.fn.inline.items)
    × (length (drain_items l.key-iterator) < spare l.indexed)
