use Rattle.std.proofs.Common.{rules}
use Rattle.tl_attributes.proofs.attributes_iter.AttributesIterIterator.next.Goals as goal

pub returns-in-Some : goal.returns-in-Some
returns-in-Some g c = record { steps = rw (← c.self.view_is, c.in-Some.ensures.steps) cc; goes = search rules }
