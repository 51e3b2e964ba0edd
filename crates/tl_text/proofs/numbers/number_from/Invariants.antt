use Rattle.std.proofs.Common.{◌≡◌, ◌<◌, drop}
use Rattle.tl_html_spec.specs.Unescaped.{number_from}
use Rattle.tl_text.specs.Inner.View.{base_of, is_digit_of}
use Rattle.tl_text.proofs.Digits.{ahead}
use Rattle.tl_text.proofs.numbers.number_from.Given as goal

abbrev pub invariant-loop-at : goal.invariant-loop-at
invariant-loop-at l = record {
  read : number_from (is_digit_of l.base) (base_of l.base) 0 l.bytes ≡ ahead l.at (number_from (is_digit_of l.base) (base_of l.base) l.code (drop l.at l.bytes));
  bound : l.code < 0x110001;
}
