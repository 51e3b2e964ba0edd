use Rattle.std.proofs.Common.{refl}
use Rattle.tl_attributes.proofs.attributes.nest.Goals as goal

pub returns-in-Err-true : goal.returns-in-Err-true
returns-in-Err-true g c = rw (c.in-Err-true.is, c.in-Err-true.field-0-test) refl

pub returns-in-Ok : goal.returns-in-Ok
returns-in-Ok g c = rw c.in-Ok.is refl

pub returns-in-Err-false : goal.returns-in-Err-false
returns-in-Err-false g c = rw (c.in-Err-false.is, c.in-Err-false.field-0-test) refl
