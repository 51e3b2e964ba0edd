use Rattle.std.proofs.Common.{rules}
use Rattle.tl.proofs.walk.print.HTMLTag.inner_html.Goals as goal

pub returns-clause-answers : goal.returns-clause-answers
returns-clause-answers c = search rules
