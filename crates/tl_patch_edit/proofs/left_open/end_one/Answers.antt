use Rattle.std.proofs.Common.{ap, ◌∙◌}
use Rattle.tl_patch_spec.specs.LeftOpen.{without_inside}
use Rattle.tl_patch_edit.specs.View.{patch_view}
use Rattle.tl_patch_edit.proofs.left_open.end_one.Goals as goal

pub returns : goal.returns
returns c = c.without_inside.ensures ∙ ap (without_inside (patch_view c.args.one.patch) c.args.one.start.number) c.without_own.ensures
