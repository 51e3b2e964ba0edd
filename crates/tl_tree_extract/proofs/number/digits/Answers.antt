use Rattle.std.proofs.Common.{◌≡◌, ◌∙◌, ◌+◌, ◌*◌, ◌-◌, arith, get_or, length, rules, true, ◌<◌}
use Rattle.std.specs.Char.{is_ascii_digit}
use Rattle.std.specs.Prelude.{min}
use Rattle.tl_tree_extract.proofs.Numbers.{one_more}
use Rattle.tl_tree_extract.proofs.number.digits.Goals as goal

pub loop-byte-preserved : goal.loop-byte-preserved
loop-byte-preserved c =
    let bytes = c.args.bytes.now in
    let i = c.loop-byte.byte-index in
    let digit : is_ascii_digit (get_or bytes i 0) ≡ true = search rules in
    let within : i < length bytes = search rules in
    let value : c.min-value.result ≡ min 65535 (c.loop-byte.value * 10 + (get_or bytes i 0 - 48)) = search rules in
    record {
      few = omega (arith, value);
      same = one_more bytes i c.loop-byte.value c.min-value.result within digit value ∙ c.loop-byte.invariant.same;
    }
