use Rattle.std.proofs.Common.{◌<◌, length, rules}
use Rattle.tl_tree_select.proofs.Values.{begins_is}
use Rattle.tl_tree_select.proofs.value.begins.Goals as goal

pub returns-then-not-is_empty : goal.returns-then-not-is_empty
returns-then-not-is_empty c =
    let long : 0 < length c.args.value.now = search rules in
    begins_is c.args.own.now c.args.value.now c.starts_with.result long c.starts_with.ensures.value
