use Rattle.std.proofs.Common.{refl}
use Rattle.tl_inline.proofs.inline.vec.InlineVec.new.Goals as goal

pub returns-clause-on_heap : goal.returns-clause-on_heap
returns-clause-on_heap g c = refl
