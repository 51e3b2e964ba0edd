use Rattle.tl_spec.proofs.examples.clean.clean_walks.Goals as goal

-- what hangs below the last tag that was entered is a fault
pub returns-clause-dangling : goal.returns-clause-dangling
returns-clause-dangling c = λ clean. clean.2

pub returns-clause-cycle : goal.returns-clause-cycle
returns-clause-cycle c = λ clean. clean.2.2
