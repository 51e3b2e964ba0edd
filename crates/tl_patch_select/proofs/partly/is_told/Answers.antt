use Rattle.std.proofs.Common.{◌∙◌}
use Rattle.tl_patch_select.proofs.Told.{told_by_search}
use Rattle.tl_patch_select.proofs.partly.is_told.Goals as goal

pub returns : goal.returns
returns c = c.is_ok.ensures.value ∙ told_by_search c.args.told.now c.args.place c.binary_search.result c.requires c.binary_search.ensures.position
