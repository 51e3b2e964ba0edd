use Rattle.tl.proofs.walk.print.Node.inner_html.Goals as goal

pub returns-in-Tag-clause-answers : goal.returns-in-Tag-clause-answers
returns-in-Tag-clause-answers c = rw c.in-Tag.is assumption
