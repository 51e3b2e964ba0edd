use Rattle.tl_patch_edit.proofs.Apart.{start_within}
use Rattle.tl_patch_edit.proofs.refused.refused_one.Goals as goal
