use Rattle.std.proofs.Common.{refl}
use Rattle.tl_attributes.proofs.attributes.AttributesOf.id_mut.Goals as goal

pub returns : goal.returns
returns g c = rw (← c.self.view_is) (refl, record { writes_back = tt; value = c.as_mut.ensures.value })
