use Rattle.tl_spec.specs.Lex.AttributeList.{IsOther}
use Rattle.tl_spec.proofs.Tree.Pairs.{all-swap_remove_entry}
use Rattle.tl_attributes.proofs.attributes.AttributesOf.remove_other.Goals as goal

pub invariant_of-self : goal.invariant_of-self
invariant_of-self g c =
    rw c.remove.ensures.left (all-swap_remove_entry (λ e. IsOther (g.B.Piece.list e.0)) (g.B.PartialEq.eq c.args.key) c.self.inside.others.entries c.self.invariant)
