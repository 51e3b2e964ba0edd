use Rattle.std.proofs.Common.{◌≡◌, ◌≤◌, drop}
use Rattle.std.specs.Prelude.{min}
use Rattle.tl_tree_extract.specs.Numbers.{digits_after}
use Rattle.tl_tree_extract.proofs.number.digits.Given as goal

abbrev pub invariant-loop-byte : goal.invariant-loop-byte
invariant-loop-byte l = record {
  few : l.value ≤ 65535;
  same : min 65535 (digits_after l.value (drop l.byte-index l.bytes)) ≡ min 65535 (digits_after 0 l.bytes);
}
