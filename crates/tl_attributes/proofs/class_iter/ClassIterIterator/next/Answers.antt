use Rattle.std.proofs.Common.{rules}
use Rattle.tl_attributes.proofs.class_iter.ClassIterIterator.next.Goals as goal

pub returns : goal.returns
returns c = record { steps = rw (← c.self.view_is) c.in_ok-part.ensures.first; goes = search rules }
