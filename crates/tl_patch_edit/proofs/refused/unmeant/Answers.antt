use Rattle.tl_patch_edit.proofs.Apart.{asked_gone, asked_refusal, gone_refusal, gone_stays}
use Rattle.tl_patch_edit.proofs.refused.unmeant.Goals as goal
