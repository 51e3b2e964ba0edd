use Rattle.tl.proofs.walk.text.Node.inner_text.Goals as goal

pub returns-in-Comment-clause-answers : goal.returns-in-Comment-clause-answers
returns-in-Comment-clause-answers c = rw c.in-Comment.is cc
