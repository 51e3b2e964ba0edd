use Rattle.std.proofs.Common.{ap, ◌∙◌}
use Rattle.tl_patch_spec.specs.LeftOpen.{with_open}
use Rattle.tl_patch_edit.specs.Open.{left_view, one_view}
use Rattle.tl_patch_edit.proofs.Open.{ended_open, ended_shut}
use Rattle.tl_patch_edit.proofs.left_open.ended_with.Goals as goal

pub returns-then-is_open : goal.returns-then-is_open
returns-then-is_open c =
    c.with_open.ensures ∙ ap (with_open (one_view c.args.one) c.args.end) c.with_inside.ensures
    ∙ ended_open (one_view c.args.one) c.args.end (left_view c.args.left.now) c.args.is_open c.if-is_open.true

pub returns-else-is_open : goal.returns-else-is_open
returns-else-is_open c = c.with_inside.ensures ∙ ended_shut (one_view c.args.one) c.args.end (left_view c.args.left.now) c.args.is_open c.if-is_open.false
