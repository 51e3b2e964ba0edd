use Rattle.tl_inline.proofs.inline.vec.InlineVec.as_slice.Goals as goal

pub returns-in-Heap : goal.returns-in-Heap
returns-in-Heap g c = rw (← c.self.view_is, c.in-Heap.is) cc
