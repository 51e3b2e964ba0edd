use Rattle.std.proofs.Common.{◌≡◌, ◌+◌, ◌++◌, length, vec_len, vec_capacity}
use Rattle.arrayvec.specs.Iter.{drain_items}
use Rattle.tl_inline.proofs.inline.spill.move_out.Given as goal

abbrev pub invariant-loop-item : goal.invariant-loop-item
invariant-loop-item g l = (goal.iterator-loop-item g).can_next l.item-iterator
    × (goal.iterator-loop-item g).is_finite l.item-iterator
    × (l.heap.items ++ drain_items l.item-iterator ≡ l.fn.inline.items)
    × (vec_capacity l.heap ≡ vec_len l.heap + length (drain_items l.item-iterator) + l.more)
