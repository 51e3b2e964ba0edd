use Rattle.std.proofs.Common.{◌∙◌}
use Rattle.tl_spec.specs.Lex.AttributeList.{IsOther}
use Rattle.tl_attributes.proofs.Others.{all_after}
use Rattle.tl_attributes.proofs.attributes.AttributesOf.insert_other.Goals as goal

pub invariant_of-self : goal.invariant_of-self
invariant_of-self g c =
    all_after (λ k. IsOther (g.B.Piece.list k)) g.B.PartialEq.eq 2 c.insert.result c.self.inside.others c.insert.new.self c.args.key c.args.value c.requires c.self.invariant
    c.insert.ensures.ok c.insert.ensures.err

pub returns-clause-succeeds : goal.returns-clause-succeeds
returns-clause-succeeds g c = rw (← c.self.view_is) (λ heap room. c.map_err.ensures.variant ∙ c.insert.ensures.succeeds heap room)
