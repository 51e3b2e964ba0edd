use Rattle.tl_inline.proofs.inline.vec.InlineVec.push.Goals as goal

pub returns-then-not-is_full-clause-ok : goal.returns-then-not-is_full-clause-ok
returns-then-not-is_full-clause-ok g c = rw (← c.self.view_is, c.in-Inline.is, ← c.if-not-is_full.ensures.value) cc
