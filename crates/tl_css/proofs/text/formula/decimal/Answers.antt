use Rattle.std.proofs.Common.{◌+◌, ◌*◌, ap, sym, ◌∙◌}
use Rattle.tl_css.specs.Bytes.{decimal_number}
use Rattle.tl_css.proofs.Numbers.{decimal_large}
use Rattle.tl_css.proofs.text.formula.decimal.Goals as goal

pub returns-then-number-gt-LARGEST : goal.returns-then-number-gt-LARGEST
returns-then-number-gt-LARGEST c =
    let n = c.digits.number in
    let step = ap (λ v. decimal_number (n * 10 + v) c.in-Some.rest.now) c.saturating_sub.ensures ∙ sym (ap (decimal_number n) c.in-Some.ensures.cases.0) in
    decimal_large _ c.in-Some.rest.now c.args.digits.now (step ∙ c.digits.invariant.number) c.if-number-gt-LARGEST.true
