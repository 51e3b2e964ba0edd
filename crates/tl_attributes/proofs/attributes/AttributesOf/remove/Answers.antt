use Rattle.tl_attributes.proofs.attributes.AttributesOf.remove.Goals as goal

pub returns-clause-value : goal.returns-clause-value
returns-clause-value g c =
    let not_id = rw c.as_bytes.ensures at c.if-is_id.ensures in
    let not_class = rw c.as_bytes-2.ensures at c.if-is_class.ensures in
    rw (← not_id, ← not_class) cc

pub returns-clause-left : goal.returns-clause-left
returns-clause-left g c =
    let not_id = rw c.as_bytes.ensures at c.if-is_id.ensures in
    let not_class = rw c.as_bytes-2.ensures at c.if-is_class.ensures in
    rw (← not_id, ← not_class) cc
