use Rattle.std.proofs.Common.{refl}
use Rattle.tl_tree_edit.proofs.events.Events.new.Goals as goal

pub returns-clause-said : goal.returns-clause-said
returns-clause-said c = rw c.new.ensures.items refl
