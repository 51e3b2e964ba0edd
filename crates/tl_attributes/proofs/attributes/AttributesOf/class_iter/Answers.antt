use Rattle.tl_attributes.proofs.ClassParts.{parts_of_text, no_text}
use Rattle.tl_attributes.proofs.attributes.AttributesOf.class_iter.Goals as goal

pub returns-in-Ok : goal.returns-in-Ok
returns-in-Ok g c =
    parts_of_text g.B.Piece.list c.args.self.now.class c.in_ok-class.class.now c.as_bytes.result.now c.in-Ok.rest.now c.in_ok-class.ensures c.as_bytes.ensures
    c.in-Ok.ensures.cases.0 c.in-Ok.ensures.cases.1

pub returns-in-Err : goal.returns-in-Err
returns-in-Err g c =
    no_text g.B.Piece.list c.args.self.now.class c.in_ok-class.class.now c.as_bytes.result.now c.in_ok-class.ensures c.as_bytes.ensures c.in-Err.ensures.cases.0
