use Rattle.tl.proofs.walk.Walker.skip.Goals as goal

pub returns-clause-marked : goal.returns-clause-marked
returns-clause-marked c = record { kept = c.requires.kept; fresh = c.requires.fresh }
