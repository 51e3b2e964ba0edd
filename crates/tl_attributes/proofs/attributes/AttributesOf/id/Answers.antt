use Rattle.tl_attributes.proofs.attributes.AttributesOf.id.Goals as goal

pub returns : goal.returns
returns g c = rw (← c.self.view_is) c.as_ref.ensures.value
