use Rattle.tl.proofs.Queries.{below-few, below-none, below-some}
use Rattle.tl.proofs.laws.queries_below_find.Goals as goal

pub returns-clause-some : goal.returns-clause-some
returns-clause-some c = below-some

pub returns-clause-none : goal.returns-clause-none
returns-clause-none c = below-none

pub returns-clause-few : goal.returns-clause-few
returns-clause-few c = below-few
