use Rattle.std.proofs.Common.{◌≡◌, ◌≤◌, length}
use Rattle.tl_css.specs.Bytes.{decimal_number}
use Rattle.tl_css.specs.Formula.{largest}
use Rattle.tl_css.proofs.text.formula.decimal.Given as goal

abbrev pub invariant-digits : goal.invariant-digits
invariant-digits l = record {
  number : decimal_number l.number l.left ≡ decimal_number 0 l.digits;
  small : l.number ≤ largest;
}

abbrev pub decreases-digits : goal.decreases-digits
decreases-digits l = length l.left
