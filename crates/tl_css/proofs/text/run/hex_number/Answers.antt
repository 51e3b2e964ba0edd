use Rattle.std.proofs.Common.{◌+◌, ◌-◌, ◌*◌, length, ap, sym, ◌∙◌, arith}
use Rattle.tl_css.specs.Bytes.{hex_number}
use Rattle.tl_css.proofs.Numbers.{hex_small, hex_more}
use Rattle.tl_css.proofs.text.run.hex_number.Goals as goal

pub overflow_mul-number : goal.overflow_mul-number
overflow_mul-number c =
    let few = c.requires in
    let less = c.in-Some.ensures.cases.1 in
    let small = hex_small c.digits.number (length c.args.digits.now - length c.digits.left.now) c.digits.invariant.small (omega arith) in
    omega arith

pub overflow_add-number : goal.overflow_add-number
overflow_add-number c =
    let few = c.requires in
    let less = c.in-Some.ensures.cases.1 in
    let more = c.hex_value.ensures.small in
    let small = hex_small c.digits.number (length c.args.digits.now - length c.digits.left.now) c.digits.invariant.small (omega arith) in
    omega arith

pub digits-preserved : goal.digits-preserved
digits-preserved c =
    let n = c.digits.number in
    let less = c.in-Some.ensures.cases.1 in
    let fewer = c.digits.invariant.fewer in
    record {
      number = ap (λ v. hex_number (n * 16 + v) c.in-Some.rest.now) c.hex_value.ensures.value ∙ (sym (ap (hex_number n) c.in-Some.ensures.cases.0) ∙ c.digits.invariant.number);
      fewer = omega arith;
      small = hex_more n c.hex_value.result (length c.args.digits.now - length c.digits.left.now) _ c.digits.invariant.small c.hex_value.ensures.small (omega arith);
    }
