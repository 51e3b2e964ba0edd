use Rattle.std.proofs.Common.{refl}
use Rattle.std.specs.List.{IsDistinct}
use Rattle.tl_inline.proofs.inline.hashmap.InlineHashMap.new.Goals as goal

pub invariant_of-result : goal.invariant_of-result
unfolding IsDistinct
invariant_of-result g c = rw c.new.ensures tt

pub returns-clause-on_heap : goal.returns-clause-on_heap
returns-clause-on_heap g c = refl
