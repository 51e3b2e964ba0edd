use Rattle.std.proofs.Common.{ap}
use Rattle.tl_tree.specs.Inner.Entered.{entered}
use Rattle.tl_tree.specs.Inner.Scoped.{elements}
use Rattle.tl_tree.proofs.scopes.Scopes.new.Goals as goal

pub returns : goal.returns
unfolding entered
returns c = ap elements c.new.ensures.items
