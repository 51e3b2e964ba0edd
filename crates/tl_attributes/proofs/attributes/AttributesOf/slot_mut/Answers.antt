use Rattle.std.proofs.Common.{refl}
use Rattle.tl_spec.specs.Lex.AttributeList.{IsOther}
use Rattle.tl_spec.proofs.Tree.Pairs.{all-set_value}
use Rattle.tl_attributes.proofs.attributes.AttributesOf.slot_mut.Goals as goal

pub invariant_of-self-lent : goal.invariant_of-self-lent
invariant_of-self-lent g c =
    λ _. (λ w. all-set_value (λ e. IsOther (g.B.Piece.list e.0)) (g.B.PartialEq.eq c.args.key.now) c.self.inside.others.entries w (λ e h. h) c.self.invariant, c.self.invariant)

pub returns : goal.returns
returns g c = rw (← c.self.view_is) (refl, record { writes_back = tt; value = c.get_mut.ensures.value })
