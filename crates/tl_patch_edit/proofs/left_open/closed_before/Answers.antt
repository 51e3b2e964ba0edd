use Rattle.std.proofs.Common.{Some, ap, false, sym, true, ◌∙◌}
use Rattle.tl_patch_spec.specs.LeftOpen.{closing_at}
use Rattle.tl_patch_edit.specs.Open.{left_view}
use Rattle.tl_patch_edit.specs.View.{patch_view}
use Rattle.tl_patch_edit.proofs.Open.{closed_before_is, open_seen}
use Rattle.tl_patch_edit.proofs.left_open.closed_before.Goals as goal

pub returns-then-not-closes_before : goal.returns-then-not-closes_before
returns-then-not-closes_before c =
    sym (closed_before_is (patch_view c.args.patch) c.args.number (left_view c.args.left.now) false (sym c.closes_before-closes_before.ensures ∙ c.if-not-closes_before.true))

pub returns : goal.returns
returns c =
    c.closing_at.ensures
    ∙ ap (closing_at (Some c.args.number)) (open_seen c.args.left.now.before.items c.as_slice.result.now c.args.number c.open_at.result c.open_at.ensures c.as_slice.ensures.value)
    ∙ sym (closed_before_is (patch_view c.args.patch) c.args.number (left_view c.args.left.now) true (sym c.closes_before-closes_before.ensures ∙ c.if-not-closes_before.false))
