use Rattle.tl_attributes.proofs.attributes.AttributesOf.unstable_raw.Goals as goal

pub returns-clause-others : goal.returns-clause-others
returns-clause-others g c = rw (← c.self.view_is) c.self.invariant
