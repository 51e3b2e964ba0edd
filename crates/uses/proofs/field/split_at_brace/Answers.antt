use Rattle.std.proofs.Common.{sym}
use Rattle.uses.proofs.Splits.{split-nowhere, split-there}
use Rattle.uses.specs.Fields.{opening}
use Rattle.uses.proofs.field.split_at_brace.Goals as goal

pub returns-in-Some-clause-pieces : goal.returns-in-Some-clause-pieces
returns-in-Some-clause-pieces c = split-there opening c.args.text.now c.in-Some.end (sym c.in-Some.ensures)

pub returns-in-None-clause-pieces : goal.returns-in-None-clause-pieces
returns-in-None-clause-pieces c = split-nowhere opening c.args.text.now (sym c.in-None.ensures)
