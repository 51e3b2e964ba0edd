use Rattle.std.proofs.Common.{ap}
use Rattle.tl_patch_spec.specs.Patches.{start_name}
use Rattle.tl_patch_edit.proofs.edit.tag_name.Goals as goal

pub returns : goal.returns
returns c = record { named = λ m ts whole start. ap start_name (c.in_ok-parts.ensures.start m ts whole start) }
