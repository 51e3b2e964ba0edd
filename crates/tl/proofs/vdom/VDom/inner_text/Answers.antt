use Rattle.std.proofs.Common.{rules}
use Rattle.tl.proofs.vdom.VDom.inner_text.Goals as goal

pub returns-clause-answers : goal.returns-clause-answers
returns-clause-answers c = search rules
