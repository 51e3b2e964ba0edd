use Rattle.std.proofs.Common.{◌<◌, length, is_ok, arith}
use Rattle.tl.proofs.Building.{opened_within}
use Rattle.tl.proofs.parser.builder.TableBuilder.open.Goals as goal

pub invariant_of-self : goal.invariant_of-self
invariant_of-self c =
    let table = c.add.new.self in
    let number : c.new.result < length table.nodes.items = omega (arith, c.new.ensures, c.len-number.ensures, c.in_ok-add.ensures.len) in
    record { in_table = opened_within (length table.nodes.items) c.new.result table.open_tags.items c.push.new.self.items (is_ok c.push.result) c.push.ensures.items number table.in_table }
