use Rattle.tl_inline.proofs.inline.hashmap.InlineHashMap.get.Goals as goal

pub returns-in-Heap : goal.returns-in-Heap
returns-in-Heap g c = rw (← c.self.view_is, c.in-Heap.is) cc
