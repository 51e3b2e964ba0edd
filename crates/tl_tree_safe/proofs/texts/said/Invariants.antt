use Rattle.std.proofs.Common.{drop, ◌++◌, ◌≡◌}
use Rattle.tl_tree_safe.specs.Inner.Walk.{said_where}
use Rattle.tl_tree_safe.proofs.texts.said.Given as goal

abbrev pub invariant-loop-byte : goal.invariant-loop-byte
invariant-loop-byte l = said_where l.in_flow l.bytes ≡ l.kept.items ++ said_where l.in_flow (drop l.byte-index l.bytes)
