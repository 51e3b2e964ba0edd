use Rattle.tl_attributes.proofs.attributes.AttributesOf.iter.Goals as goal

pub returns-clause-value : goal.returns-clause-value
returns-clause-value g c = cc

pub returns-clause-distinct : goal.returns-clause-distinct
returns-clause-distinct g c = rw c.unstable_raw.ensures.value at c.iter.ensures.unique

pub returns-clause-others : goal.returns-clause-others
returns-clause-others g c = c.unstable_raw.ensures.others
