use Rattle.std.proofs.Common.{◌∙◌}
use Rattle.std.specs.Map.Iter.{deref}
use Rattle.tl_inline.proofs.Lists.{shows_in_order}
use Rattle.tl_inline.proofs.inline.vec.InlineVec.iter.Goals as goal

pub returns-clause-runs : goal.returns-clause-runs
returns-clause-runs g c = shows_in_order deref

pub returns-clause-rest : goal.returns-clause-rest
returns-clause-rest g c = c.iter.ensures.rest ∙ c.as_slice.ensures
