use Rattle.tl_patch_edit.proofs.Open.{both_with}
use Rattle.tl_patch_edit.proofs.left_open.with_open.Goals as goal

pub returns : goal.returns
returns c =
    both_with c.args.left.now.before.items c.args.left.now.inside.items c.args.left.now.own.items c.set_open.new.left.items c.set_open-2.new.left.items c.args.one c.args.end
    c.set_open.ensures c.set_open-2.ensures
