use Rattle.std.proofs.Common.{rules}
use Rattle.std.specs.Str.{IsAscii}
use Rattle.tl_selector.proofs.LossyAscii.{part_ascii}
use Rattle.tl_selector.proofs.attr_value.has_part.Goals as goal

pub returns-then-is_ascii : goal.returns-then-is_ascii
returns-then-is_ascii c =
    let ascii : IsAscii c.args.part.now = search rules in
    let said = part_ascii c.args.value.now c.args.part.now ascii in
    (λ h. said.0 (c.contains_str.ensures.0 h), λ h. c.contains_str.ensures.1 (said.1 h))
