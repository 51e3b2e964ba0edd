use Rattle.std.proofs.Common.{None}
use Rattle.tl_patch_edit.proofs.Open.{open_got, open_past}
use Rattle.tl_patch_edit.proofs.left_open.open_at.Goals as goal

pub returns-then-number-left : goal.returns-then-number-left
returns-then-number-left c = open_got c.args.left.now c.args.number None c.if-number-left.true

pub returns : goal.returns
returns c = open_past c.args.left.now c.args.number c.if-number-left.false
