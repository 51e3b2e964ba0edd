use Rattle.std.proofs.Common.{◌≡◌, ◌+◌, ◌-◌, ◌*◌, ◌^◌, ◌≤◌, length}
use Rattle.tl_css.specs.Bytes.{hex_number}
use Rattle.tl_css.proofs.text.run.hex_number.Given as goal

abbrev pub invariant-digits : goal.invariant-digits
invariant-digits l = record {
  number : hex_number l.number l.left ≡ hex_number 0 l.digits;
  fewer : length l.left ≤ length l.digits;
  small : l.number + 12 ≤ 12 * 16 ^ (length l.digits - length l.left);
}

abbrev pub decreases-digits : goal.decreases-digits
decreases-digits l = length l.left
