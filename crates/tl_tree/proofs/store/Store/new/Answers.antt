use Rattle.tl_tree.proofs.Lists.{none-placed}
use Rattle.tl_tree.proofs.store.Store.new.Goals as goal

pub invariant_of-result-clause-keys_placed : goal.invariant_of-result-clause-keys_placed
invariant_of-result-clause-keys_placed c = none-placed c.in_ok-attributes.attributes _ c.in_ok-attributes.ensures
