use Rattle.std.proofs.Common.{ap, sym, ◌∙◌}
use Rattle.tl_patch_spec.specs.LeftOpen.{last_open}
use Rattle.tl_patch_edit.specs.Open.{left_view}
use Rattle.tl_patch_edit.specs.View.{patch_view}
use Rattle.tl_patch_edit.specs.declared.ask.ElementPatch.{ElementPatch}
use Rattle.tl_patch_edit.proofs.Open.{open_seen}
use Rattle.tl_patch_edit.proofs.left_open.last_open.Goals as goal

pub returns-in-Rename : goal.returns-in-Rename
returns-in-Rename c =
    open_seen c.args.left.now.inside.items c.as_slice.result.now c.args.number c.open_at.result c.open_at.ensures c.as_slice.ensures.value
    ∙ ap (λ (p : ElementPatch). last_open (patch_view p) c.args.number (left_view c.args.left.now)) (sym c.in-Rename.is)

pub returns-in-Unwrap : goal.returns-in-Unwrap
returns-in-Unwrap c =
    open_seen c.args.left.now.inside.items c.as_slice-in-Unwrap.result.now c.args.number c.open_at-in-Unwrap.result c.open_at-in-Unwrap.ensures c.as_slice-in-Unwrap.ensures.value
    ∙ ap (λ (p : ElementPatch). last_open (patch_view p) c.args.number (left_view c.args.left.now)) (sym c.in-Unwrap.is)

pub returns-in-Append : goal.returns-in-Append
returns-in-Append c =
    open_seen c.args.left.now.inside.items c.as_slice-in-Append.result.now c.args.number c.open_at-in-Append.result c.open_at-in-Append.ensures c.as_slice-in-Append.ensures.value
    ∙ ap (λ (p : ElementPatch). last_open (patch_view p) c.args.number (left_view c.args.left.now)) (sym c.in-Append.is)

pub returns-in-PutAfter : goal.returns-in-PutAfter
returns-in-PutAfter c =
    open_seen c.args.left.now.own.items c.as_slice-in-PutAfter.result.now c.args.number c.open_at-in-PutAfter.result c.open_at-in-PutAfter.ensures c.as_slice-in-PutAfter.ensures.value
    ∙ ap (λ (p : ElementPatch). last_open (patch_view p) c.args.number (left_view c.args.left.now)) (sym c.in-PutAfter.is)
