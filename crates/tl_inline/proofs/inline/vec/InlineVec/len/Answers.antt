use Rattle.tl_inline.proofs.inline.vec.InlineVec.len.Goals as goal

pub returns-in-Inline-clause-value : goal.returns-in-Inline-clause-value
returns-in-Inline-clause-value g c = rw (← c.self.view_is, c.in-Inline.is) cc
