use Rattle.std.proofs.Common.{◌≡◌, ◌≤◌, length}
use Rattle.tl.proofs.parser.builder.guessed_nodes.Given as goal

abbrev pub invariant-loop-byte : goal.invariant-loop-byte
invariant-loop-byte l = record {
  none : length l.fn.text ≡ 0 → l.tags ≡ 0;
  passed : l.tags ≤ l.byte-index;
}
