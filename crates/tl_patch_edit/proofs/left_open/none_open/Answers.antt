use Rattle.tl_patch_edit.proofs.Open.{none_left}
use Rattle.tl_patch_edit.proofs.left_open.none_open.Goals as goal

pub returns : goal.returns
returns c =
    none_left c.in_ok-before.before.items c.in_ok-inside.inside.items c.in_ok-own.own.items c.args.len c.in_ok-before.ensures.none c.in_ok-before.ensures.len
    c.in_ok-inside.ensures.none c.in_ok-inside.ensures.len c.in_ok-own.ensures.none c.in_ok-own.ensures.len
