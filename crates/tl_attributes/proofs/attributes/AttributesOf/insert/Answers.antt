use Rattle.std.proofs.Common.{refl}
use Rattle.tl_attributes.proofs.attributes.AttributesOf.insert.Goals as goal

pub returns-then-is_id-clause-ok : goal.returns-then-is_id-clause-ok
returns-then-is_id-clause-ok g c =
    let named_id = rw c.as_bytes.ensures at c.if-is_id.ensures in
    rw (← c.self.view_is, ← named_id) refl

pub returns-then-is_class-clause-ok : goal.returns-then-is_class-clause-ok
returns-then-is_class-clause-ok g c =
    let not_id = rw c.as_bytes.ensures at c.if-is_id.ensures in
    let named_class = rw c.as_bytes-2.ensures at c.if-is_class.ensures in
    rw (← c.self.view_is, ← not_id, ← named_class) refl

pub returns-clause-ok : goal.returns-clause-ok
returns-clause-ok g c =
    let not_id = rw c.as_bytes.ensures at c.if-is_id.ensures in
    let not_class = rw c.as_bytes-2.ensures at c.if-is_class.ensures in
    rw (← not_id, ← not_class) c.insert_other.ensures.ok
