use Rattle.std.proofs.Common.{◌≡◌}
use Rattle.tl_tree.specs.Inner.Stack.{opened_from}
use Rattle.tl_tree.proofs.path.FramePath.next_open.Given as goal

abbrev pub invariant-loop-index : goal.invariant-loop-index
invariant-loop-index l = opened_from l.self l.from ≡ opened_from l.self l.index
