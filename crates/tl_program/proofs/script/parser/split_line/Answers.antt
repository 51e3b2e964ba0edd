use Rattle.tl_program.proofs.Lines.{cut_some, cut_none}
use Rattle.tl_program.proofs.script.parser.split_line.Goals as goal

pub returns-in-Some-clause-lines : goal.returns-in-Some-clause-lines
returns-in-Some-clause-lines c = cut_some c.args.text.now (c.in-Some.line, c.in-Some.more) c.in-Some.ensures.cases

pub returns-in-None-clause-lines : goal.returns-in-None-clause-lines
returns-in-None-clause-lines c = cut_none c.args.text.now c.in-None.ensures.cases
