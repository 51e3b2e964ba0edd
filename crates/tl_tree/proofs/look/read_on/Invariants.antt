use Rattle.std.proofs.Common.{drop, ◌≡◌}
use Rattle.tl_tree.specs.Inner.Looks.{read_on}
use Rattle.tl_tree.proofs.look.read_on.Given as goal

abbrev pub invariant-loop-byte : goal.invariant-loop-byte
invariant-loop-byte l = read_on l.number (drop l.byte-index l.bytes) ≡ read_on l.so_far l.bytes
