use Rattle.std.proofs.Common.{◌<◌, length, rules}
use Rattle.tl_tree_select.proofs.Values.{ends_is_so}
use Rattle.tl_tree_select.proofs.value.ends.Goals as goal

pub returns-then-not-is_empty : goal.returns-then-not-is_empty
returns-then-not-is_empty c =
    let long : 0 < length c.args.value.now = search rules in
    ends_is_so c.args.own.now c.args.value.now c.ends_with.result long c.ends_with.ensures.value
