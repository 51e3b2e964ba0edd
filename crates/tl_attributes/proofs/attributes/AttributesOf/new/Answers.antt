use Rattle.std.proofs.Common.{None}
use Rattle.tl_attributes.proofs.attributes.AttributesOf.new.Goals as goal

pub returns : goal.returns
returns g c = λ t. record { others = record { entries = c.new.ensures.entries t; on_heap = c.new.ensures.on_heap t }; id = None; class = None }
