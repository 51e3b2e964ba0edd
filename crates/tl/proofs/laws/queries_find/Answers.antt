use Rattle.tl.proofs.Queries.{query-few, query-none, query-reading, query-some}
use Rattle.tl.proofs.laws.queries_find.Goals as goal

pub returns-clause-some : goal.returns-clause-some
returns-clause-some c = λ d text found e finds stands. query-some d text found e finds stands

pub returns-clause-none : goal.returns-clause-none
returns-clause-none c = λ d text found finds none. query-none d text found finds none

pub returns-clause-reading : goal.returns-clause-reading
returns-clause-reading c = λ d text found finds. query-reading d text found finds

pub returns-clause-few : goal.returns-clause-few
returns-clause-few c = λ d text found finds small. query-few d text found finds small
