use Rattle.tl_patch_edit.proofs.Refusals.{first_place}
use Rattle.tl_patch_edit.proofs.patched.first_of.Goals as goal

pub returns : goal.returns
returns c = first_place c.args.patches.now _ c.requires
