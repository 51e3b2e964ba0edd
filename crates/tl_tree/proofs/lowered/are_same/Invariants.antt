use Rattle.std.proofs.Common.{drop, ◌≡◌}
use Rattle.std.specs.Str.{bytes_eq}
use Rattle.tl_tree.proofs.lowered.are_same.Given as goal

abbrev pub invariant-loop-at : goal.invariant-loop-at
invariant-loop-at l = bytes_eq l.bytes l.other ≡ bytes_eq (drop l.at l.bytes) (drop l.at l.other)
