use Rattle.tl.proofs.Loops.{meets-tag, skipped-events, skipped-fewer}
use Rattle.tl.proofs.laws.walks.walks_skip.Goals as goal

pub returns-clause-left : goal.returns-clause-left
returns-clause-left c = skipped-events

pub returns-clause-fewer : goal.returns-clause-fewer
returns-clause-fewer c = skipped-fewer

pub returns-clause-tag : goal.returns-clause-tag
returns-clause-tag c = λ p q e h own s is. meets-tag p q h own e s is
