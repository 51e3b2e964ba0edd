use Rattle.std.proofs.Common.{refl}
use Rattle.tl_spec.specs.Edit.Attribute.{value_at}
use Rattle.tl_attributes.proofs.Others.{lent_found}
use Rattle.tl_attributes.proofs.attributes.AttributesOf.value_or_presence_mut.Goals as goal

pub returns-in-Some : goal.returns-in-Some
returns-in-Some g c =
    let there = value_at g.B.Piece.list g.B.PartialEq.eq c.args.self.now c.args.key in
    let value = lent_found there c.in-Some.value.now c.in-Some.ensures.value in
    (refl, record { writes_back = tt; value = value })
