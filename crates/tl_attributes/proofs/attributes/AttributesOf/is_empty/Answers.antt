use Rattle.std.proofs.Common.{refl}
use Rattle.tl_attributes.proofs.attributes.AttributesOf.is_empty.Goals as goal

pub returns : goal.returns
returns g c = rw c.len.ensures.value refl
