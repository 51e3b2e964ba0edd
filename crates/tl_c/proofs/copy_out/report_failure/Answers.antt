use Rattle.tl_c.proofs.Room.{number_of-memory, number_of-refused, puts_failure}
use Rattle.tl_c.proofs.copy_out.report_failure.Goals as goal

pub returns-clause-put : goal.returns-clause-put
returns-clause-put g c = λ outcome fails. puts_failure outcome c.args.failure c.args.out.now fails

pub returns-clause-memory : goal.returns-clause-memory
returns-clause-memory g c = number_of-memory c.args.failure

pub returns-clause-refused : goal.returns-clause-refused
returns-clause-refused g c = number_of-refused c.args.failure
