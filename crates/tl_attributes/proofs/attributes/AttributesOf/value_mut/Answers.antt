use borrow.Follows.Closed.{read_of}
use Rattle.std.proofs.Common.{◌≡◌, ◌∙◌, true, false, rules}
use Rattle.std.specs.Option.{ghost_name_of}
use Rattle.tl_spec.specs.Lex.AttributeList.{is_id, is_class}
use Rattle.tl_attributes.proofs.Others.{at_id, at_class, value_at_id, value_at_class}
use Rattle.tl_attributes.proofs.attributes.AttributesOf.value_mut.Goals as goal

pub returns-then-is_id : goal.returns-then-is_id
returns-then-is_id g c =
    let a = c.args.self.now in
    let k = c.args.key.now in
    let list = g.B.Piece.list in
    let eq = g.B.PartialEq.eq in
    let here : is_id (list k) ≡ true = search rules in (
      λ t. read_of (ghost_name_of c.id_mut.result) (λ (w : g.row.B.Denot). at_id list eq a k here w t) a,
      record { writes_back = tt; value = c.id_mut.ensures.value ∙ value_at_id list eq a k here },
    )

pub returns-then-is_class : goal.returns-then-is_class
returns-then-is_class g c =
    let a = c.args.self.now in
    let k = c.args.key.now in
    let list = g.B.Piece.list in
    let eq = g.B.PartialEq.eq in
    let other : is_id (list k) ≡ false = search rules in
    let here : is_class (list k) ≡ true = search rules in (
      λ t. read_of (ghost_name_of c.class_mut.result) (λ (w : g.row.B.Denot). at_class list eq a k other here w t) a,
      record { writes_back = tt; value = c.class_mut.ensures.value ∙ value_at_class list eq a k other here },
    )
