use Rattle.std.proofs.Common.{arith, rules}
use Rattle.tl_tree_select.proofs.Compounds.{compound_of}
use Rattle.tl_tree_select.proofs.compound.is_compound.Goals as goal

pub returns : goal.returns
returns c some = compound_of c.args.steps.now c.loop-place.place (search rules) (omega arith) c.loop-place.invariant
