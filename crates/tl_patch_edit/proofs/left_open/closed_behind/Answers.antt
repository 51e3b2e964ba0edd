use Rattle.std.proofs.Common.{ap₂, ◌∙◌}
use Rattle.tl_patch_spec.specs.LeftOpen.{closing_at}
use Rattle.tl_patch_edit.specs.View.{extent_view}
use Rattle.tl_patch_edit.proofs.Open.{content_ends}
use Rattle.tl_patch_edit.proofs.left_open.closed_behind.Goals as goal

pub returns : goal.returns
returns c = c.closing_at.ensures ∙ ap₂ closing_at (c.inner_end.ensures ∙ content_ends (extent_view c.args.extent)) c.last_open.ensures
