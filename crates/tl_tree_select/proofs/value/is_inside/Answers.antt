use Rattle.std.proofs.Common.{◌<◌, length, rules}
use Rattle.tl_tree_select.proofs.Values.{inside_is}
use Rattle.tl_tree_select.proofs.value.is_inside.Goals as goal

pub returns-then-not-is_empty : goal.returns-then-not-is_empty
returns-then-not-is_empty c =
    let long : 0 < length c.args.value.now = search rules in
    inside_is c.args.own.now c.args.value.now c.contains_str.result long c.contains_str.ensures
