use Rattle.std.proofs.Common.{refl}
use Rattle.tl_inline.proofs.inline.vec.InlineVec.is_heap_allocated.Goals as goal

pub returns-in-Heap : goal.returns-in-Heap
returns-in-Heap g c = rw (← c.self.view_is, c.in-Heap.is) refl

pub returns-in-Inline : goal.returns-in-Inline
returns-in-Inline g c = rw (← c.self.view_is, c.in-Inline.is) refl
