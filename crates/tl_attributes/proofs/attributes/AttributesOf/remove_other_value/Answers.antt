use Rattle.std.proofs.Common.{sym, ◌∙◌}
use Rattle.tl_spec.specs.Lex.AttributeList.{IsOther}
use Rattle.tl_spec.proofs.Tree.Pairs.{all-set_value}
use Rattle.tl_attributes.proofs.Others.{no_value_there}
use Rattle.tl_attributes.proofs.attributes.AttributesOf.remove_other_value.Goals as goal

pub invariant_of-self-2 : goal.invariant_of-self-2
invariant_of-self-2 g c = all-set_value (λ e. IsOther (g.B.Piece.list e.0)) (g.B.PartialEq.eq c.args.key) c.self.inside.others.entries c.take.new.self (λ e h. h) c.self.invariant

pub returns-in_err-get_mut-clause-left : goal.returns-in_err-get_mut-clause-left
returns-in_err-get_mut-clause-left g c = c.self.view_is ∙ no_value_there g.B.PartialEq.eq c.args.self.now c.args.key (rw (← c.self.view_is) (sym c.in_err-get_mut.ensures.value))
