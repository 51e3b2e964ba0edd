use Rattle.tl_spec.proofs.Lex.AttributeGrammar.{attributes_of-only}
use Rattle.tl_spec.proofs.laws.attribute_list.Goals as goal

pub returns : goal.returns
returns c = attributes_of-only
