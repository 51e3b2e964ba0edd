use Rattle.tl_inline.proofs.inline.vec.InlineVec.remove.Goals as goal
use Rattle.tl_inline.proofs.inline.vec.InlineVec.remove.Goals.{in-Inline, in-Heap}

pub returns-clause-left : goal.returns-clause-left
returns-clause-left g c =
    elim c.match-self.branch [
      | in-Inline w ↦ rw (← c.self.view_is, w.in-Inline.is, w.self-inside-is) cc
      | in-Heap w ↦ rw (← c.self.view_is, w.in-Heap.is, w.self-inside-is) cc
    ]
