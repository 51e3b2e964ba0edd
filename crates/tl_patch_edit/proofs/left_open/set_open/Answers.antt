use Rattle.std.proofs.Common.{refl}
use Rattle.tl_patch_edit.proofs.Open.{set_viewed}
use Rattle.tl_patch_edit.proofs.left_open.set_open.Goals as goal

pub returns-then-number-len : goal.returns-then-number-len
returns-then-number-len c = set_viewed c.args.left.now.items _ c.args.number c.args.one refl
