use Rattle.tl_spec.proofs.Select.Tests.{holds_alone-is}
use Rattle.tl_spec.proofs.Select.Search.{holds-is, matches-are, matches-only}
use Rattle.tl_spec.proofs.laws.searches.selector_search.Goals as goal

pub returns-clause-alone : goal.returns-clause-alone
returns-clause-alone c = holds_alone-is

pub returns-clause-among : goal.returns-clause-among
returns-clause-among c = holds-is

pub returns-clause-between : goal.returns-clause-between
returns-clause-between c = λ nodes e from to ns. (matches-only nodes e from to ns, matches-are nodes e from to ns)
