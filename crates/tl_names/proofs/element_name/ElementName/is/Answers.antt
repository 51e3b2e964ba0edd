use Rattle.std.proofs.Common.{arith}
use Rattle.tl_names.proofs.TagSets.{bit_of_row}
use Rattle.tl_names.proofs.element_name.ElementName.is.Goals as goal

pub returns : goal.returns
returns c = bit_of_row c.args.class c.args.self (omega arith)
