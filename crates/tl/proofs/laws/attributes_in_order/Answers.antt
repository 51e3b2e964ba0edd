use Rattle.tl.proofs.Printing.{pairs-listed}
use Rattle.tl.proofs.laws.attributes_in_order.Goals as goal

pub returns : goal.returns
returns c = pairs-listed
