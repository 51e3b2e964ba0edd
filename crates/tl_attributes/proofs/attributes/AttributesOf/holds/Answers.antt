use Rattle.tl_attributes.proofs.attributes.AttributesOf.holds.Goals as goal

pub returns : goal.returns
returns g c =
    let not_id = rw c.as_bytes.ensures at c.if-is_id.ensures in
    let not_class = rw c.as_bytes-2.ensures at c.if-is_class.ensures in
    rw (← c.self.view_is, ← not_id, ← not_class) cc
