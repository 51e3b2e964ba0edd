use Rattle.std.proofs.Common.{ap, false, sym, true, ◌∙◌}
use Rattle.tl_patch_spec.specs.LeftOpen.{closed_if}
use Rattle.tl_patch_edit.specs.Open.{left_view}
use Rattle.tl_patch_edit.specs.View.{patch_view}
use Rattle.tl_patch_edit.proofs.Open.{inside_without, open_seen}
use Rattle.tl_patch_edit.proofs.left_open.without_inside.Goals as goal

pub returns-then-takes_inside : goal.returns-then-takes_inside
returns-then-takes_inside c =
    c.close_if.ensures
    ∙ ap (closed_if (left_view c.args.left.now)) (open_seen c.args.left.now.inside.items c.as_slice.result.now c.args.number c.open_at-inner.result c.open_at-inner.ensures c.as_slice.ensures.value)
    ∙ inside_without (patch_view c.args.patch) c.args.number (left_view c.args.left.now) true (sym c.takes_inside-takes_inside.ensures ∙ c.if-takes_inside.true)

pub returns-else-takes_inside : goal.returns-else-takes_inside
returns-else-takes_inside c = inside_without (patch_view c.args.patch) c.args.number (left_view c.args.left.now) false (sym c.takes_inside-takes_inside.ensures ∙ c.if-takes_inside.false)
